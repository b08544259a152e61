use Rattle.std.proofs.Common.{refl}
use Rattle.first_mqtt_packet.proofs.Packets.{built_again}
use Rattle.first_mqtt_packet.proofs.laws.written_is_read.Goals as goal

pub returns-clause-spelled : goal.returns-clause-spelled
returns-clause-spelled c = λ p built short. (built, refl, short)

pub returns-clause-read : goal.returns-clause-read
returns-clause-read c = built_again
