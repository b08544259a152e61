-- A packet as the definitions see it: its kind and its fields, over lists and numbers (MQTT 3).
use Rattle.std.specs.Prelude.{ℕ, Bool, List, Option}
use Rattle.mqtt_props.specs.declared.prop.Prop.{Prop}
use Rattle.mqtt_packet.specs.declared.packet.Will.{Will}
use Rattle.mqtt_packet.specs.declared.packet.Wish.{Wish}
use Rattle.mqtt_packet.specs.declared.packet.AckKind.{AckKind}
use Rattle.mqtt_packet.specs.declared.packet.AckKind.TheVariants as OfAck
use Rattle.mqtt_packet.specs.declared.packet.Packet.{Packet}
use Rattle.mqtt_packet.specs.declared.packet.Packet.TheVariants as Code

-- CONNECT (MQTT 3.1)
pub record ConnectFields : Type 0 where
  pub clean : Bool
  pub keep_alive : ℕ
  pub props : List Prop
  pub client : List ℕ
  pub will : Option Will
  pub user : Option (List ℕ)
  pub password : Option (List ℕ)

-- CONNACK (MQTT 3.2)
pub record ConnackFields : Type 0 where
  pub present : Bool
  pub reason : ℕ
  pub props : List Prop

-- PUBLISH (MQTT 3.3); the identifier is 0 where the QoS is
pub record PublishFields : Type 0 where
  pub dup : Bool
  pub qos : ℕ
  pub retain : Bool
  pub topic : List ℕ
  pub id : ℕ
  pub props : List Prop
  pub payload : List ℕ

-- PUBACK, PUBREC, PUBREL and PUBCOMP (MQTT 3.4 to 3.7)
pub record AckFields : Type 0 where
  pub id : ℕ
  pub reason : ℕ
  pub props : List Prop

-- SUBSCRIBE (MQTT 3.8)
pub record SubscribeFields : Type 0 where
  pub id : ℕ
  pub props : List Prop
  pub filters : List Wish

-- SUBACK and UNSUBACK (MQTT 3.9, 3.11)
pub record AnswerFields : Type 0 where
  pub id : ℕ
  pub props : List Prop
  pub reasons : List ℕ

-- UNSUBSCRIBE (MQTT 3.10)
pub record UnsubscribeFields : Type 0 where
  pub id : ℕ
  pub props : List Prop
  pub filters : List (List ℕ)

-- DISCONNECT and AUTH (MQTT 3.14, 3.15)
pub record EndFields : Type 0 where
  pub reason : ℕ
  pub props : List Prop

-- one of the fifteen kinds; the four that acknowledge one another have one form
pub data PlainPacket : Type 0 where
  Connect : ConnectFields → PlainPacket
  Connack : ConnackFields → PlainPacket
  Publish : PublishFields → PlainPacket
  Ack : AckKind → AckFields → PlainPacket
  Subscribe : SubscribeFields → PlainPacket
  Suback : AnswerFields → PlainPacket
  Unsubscribe : UnsubscribeFields → PlainPacket
  Unsuback : AnswerFields → PlainPacket
  Pingreq : PlainPacket
  Pingresp : PlainPacket
  Disconnect : EndFields → PlainPacket
  Auth : EndFields → PlainPacket

abbrev pub ack : AckKind → ℕ → ℕ → List Prop → PlainPacket
ack kind id reason props = Ack kind (record { id = id; reason = reason; props = props })

-- what the definitions see of a packet of the code
abbrev pub plain : Packet → PlainPacket
plain (Code.Connect clean keep_alive props client will user password) =
    Connect (record { clean = clean; keep_alive = keep_alive; props = props; client = client; will = will; user = user; password = password })
plain (Code.Connack present reason props) = Connack (record { present = present; reason = reason; props = props })
plain (Code.Publish dup qos retain topic id props payload) =
    Publish (record { dup = dup; qos = qos; retain = retain; topic = topic; id = id; props = props; payload = payload })
plain (Code.Puback id reason props) = ack OfAck.Puback id reason props
plain (Code.Pubrec id reason props) = ack OfAck.Pubrec id reason props
plain (Code.Pubrel id reason props) = ack OfAck.Pubrel id reason props
plain (Code.Pubcomp id reason props) = ack OfAck.Pubcomp id reason props
plain (Code.Subscribe id props filters) = Subscribe (record { id = id; props = props; filters = filters.items })
plain (Code.Suback id props reasons) = Suback (record { id = id; props = props; reasons = reasons })
plain (Code.Unsubscribe id props filters) = Unsubscribe (record { id = id; props = props; filters = filters.items })
plain (Code.Unsuback id props reasons) = Unsuback (record { id = id; props = props; reasons = reasons })
plain Code.Pingreq = Pingreq
plain Code.Pingresp = Pingresp
plain (Code.Disconnect reason props) = Disconnect (record { reason = reason; props = props })
plain (Code.Auth reason props) = Auth (record { reason = reason; props = props })
