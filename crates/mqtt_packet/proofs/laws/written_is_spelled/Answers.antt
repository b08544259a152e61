use Rattle.mqtt_packet.specs.WrittenLaws.{written_spells, written_alone, written_answer}
use Rattle.mqtt_packet.proofs.laws.written_is_spelled.Goals as goal

pub returns-clause-itself : goal.returns-clause-itself
returns-clause-itself c = written_spells

pub returns-clause-alone : goal.returns-clause-alone
returns-clause-alone c = written_alone

pub returns-clause-answer : goal.returns-clause-answer
returns-clause-answer c = written_answer
