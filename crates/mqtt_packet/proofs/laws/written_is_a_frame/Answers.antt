use Rattle.mqtt_packet.specs.WrittenLaws.{written_frame}
use Rattle.mqtt_packet.proofs.laws.written_is_a_frame.Goals as goal

pub returns : goal.returns
returns c = written_frame
