use Rattle.std.proofs.Common.{subst, arith}
use Rattle.first_mqtt_packet.specs.Reading.{Gives}
use Rattle.first_mqtt_packet.proofs.Packets.{is_found, spelled_is_read}
use Rattle.first_mqtt_packet.proofs.reading.read.Goals as goal

pub returns-clause-found : goal.returns-clause-found
returns-clause-found c = is_found c.args.bytes.now c.read_whole.result (λ i. omega (arith, c.type_inv.bytes i)) c.read_whole.ensures

pub returns-clause-only : goal.returns-clause-only
returns-clause-only c = λ p spells. subst (λ found. Gives c.read_whole.result found) (spelled_is_read c.args.bytes.now p spells) c.read_whole.ensures
