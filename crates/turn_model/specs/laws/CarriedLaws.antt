-- What packets change one after the other can be carried along: the next one goes on from what those before it left.
use Rattle.std.proofs.Common.{◌≡◌, List, [], ◌∷◌, ◌++◌, refl}
use Rattle.mqtt_packet.specs.Packet.{PlainPacket}
use Rattle.turn_model.specs.PlainConnection.{PlainConnection}
use Rattle.turn_model.specs.Step.{Setting}
use Rattle.turn_model.specs.PacketStep.{packet_step}
use Rattle.turn_model.specs.Records.{Stepped, stepped_by, stepped_all}
use Rattle.turn_model.specs.Records.{stepped_on}

pub one_more : (s : Setting) (k : PlainConnection) (packets : List PlainPacket) (packet : PlainPacket) (st : Stepped) →
    stepped_all s k (packets ++ packet ∷ []) st ≡ stepped_on s k packet (stepped_all s k packets st)
one_more s k [] packet st = refl
one_more s k (first ∷ packets) packet st = one_more s k packets packet (stepped_on s k first st)
