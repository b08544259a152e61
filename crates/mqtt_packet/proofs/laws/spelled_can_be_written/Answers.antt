use Rattle.mqtt_packet.specs.ArrangedLaws.{can_be_written}
use Rattle.mqtt_packet.proofs.laws.spelled_can_be_written.Goals as goal

pub returns : goal.returns
returns c = can_be_written
