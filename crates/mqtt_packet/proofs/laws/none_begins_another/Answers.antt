use Rattle.mqtt_packet.specs.WrittenLaws.{none_begins}
use Rattle.mqtt_packet.proofs.laws.none_begins_another.Goals as goal

pub returns : goal.returns
returns c = none_begins
