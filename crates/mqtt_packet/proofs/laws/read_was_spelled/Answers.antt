use Rattle.mqtt_packet.specs.FrameLaws.{read_was_spelled}
use Rattle.mqtt_packet.proofs.laws.read_was_spelled.Goals as goal

pub returns : goal.returns
returns c = read_was_spelled
