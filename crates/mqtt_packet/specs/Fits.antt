-- Which fields a packet may have: each in its range, with the ties between them, and properties that may stand there.
use Rattle.std.specs.Prelude.{ℕ, zero, suc, ◌<◌, ◌≤◌, ◌^◌, Bool, false, ◌||◌, ◌==◌, List, length, All, Option, Some, None, ◌≡◌}
use Rattle.std.specs.List.{list_any}
use Rattle.mqtt_props.specs.declared.table.Holder.{Holder}
use Rattle.mqtt_props.specs.declared.table.Holder.TheVariants as In
use Rattle.mqtt_props.specs.Prop.{IsPropIn, IsShortText}
use Rattle.mqtt_props.specs.Props.{in_writing_order}
use Rattle.mqtt_packet.specs.declared.packet.Will.{Will}
use Rattle.mqtt_packet.specs.declared.packet.Wish.{Wish}
use Rattle.mqtt_packet.specs.declared.packet.AckKind.{AckKind}
use Rattle.mqtt_packet.specs.declared.packet.AckKind.TheVariants.{Puback, Pubrec, Pubrel, Pubcomp}
use Rattle.mqtt_packet.specs.Packet.{PlainPacket, Connect, Connack, Publish, Ack, Subscribe, Suback, Unsubscribe, Unsuback, Pingreq, Pingresp, Disconnect, Auth, ConnectFields, ConnackFields, PublishFields, AckFields, SubscribeFields, AnswerFields, UnsubscribeFields, EndFields}
use Rattle.mqtt_packet.specs.Spelling.{written_body}

-- never 0 (MQTT 2.2.1)
abbrev pub IsId : ℕ → Type 0
IsId id = (0 < id) × (id < 2 ^ 16)

-- `+` or `#` (MQTT 4.7.1)
abbrev pub is_wildcard : ℕ → Bool
is_wildcard byte = (byte == 0x2B) || (byte == 0x23)

abbrev pub has_wildcard : List ℕ → Bool
has_wildcard text = list_any is_wildcard text

-- a topic name, which may be empty (MQTT 3.3.2.1)
abbrev pub IsTopicName : List ℕ → Type 0
IsTopicName topic = IsShortText topic × (has_wildcard topic ≡ false)

abbrev pub IsShortBinary : List ℕ → Type 0
IsShortBinary bytes = length bytes ≤ 65535

-- a field that is there or not
abbrev pub IfThere : {A : Type 0} → (A → Type 0) → Option A → Type 0
IfThere P None = Unit {0}
IfThere P (Some x) = P x

-- MQTT 3.1.2.5 to 3.1.2.7, 3.1.3.2 to 3.1.3.4
pub record FitsWill (will : Will) : Type 0 where
  pub qos : will.qos ≤ 2
  pub props : All (IsPropIn In.Will) will.props
  pub topic : IsTopicName will.topic
  pub payload : IsShortBinary will.payload

pub record FitsConnect (c : ConnectFields) : Type 0 where
  pub keep_alive : c.keep_alive < 2 ^ 16
  pub props : All (IsPropIn In.Connect) c.props
  pub client : IsShortText c.client
  pub will : IfThere FitsWill c.will
  pub user : IfThere IsShortText c.user
  pub password : IfThere IsShortBinary c.password

pub record FitsConnack (c : ConnackFields) : Type 0 where
  pub reason : c.reason < 2 ^ 8
  pub props : All (IsPropIn In.Connack) c.props

-- a message of QoS 0 has no identifier, which is then 0, and isn't sent again (MQTT 3.3.1.1, 3.3.2.2)
abbrev pub IsTied : ℕ → Bool → ℕ → Type 0
IsTied zero dup id = (dup ≡ false) × (id ≡ 0)
IsTied (suc qos) dup id = IsId id

pub record FitsPublish (p : PublishFields) : Type 0 where
  pub qos : p.qos ≤ 2
  pub tied : IsTied p.qos p.dup p.id
  pub topic : IsTopicName p.topic
  pub props : All (IsPropIn In.Publish) p.props

abbrev pub ack_holder : AckKind → Holder
ack_holder Puback = In.Puback
ack_holder Pubrec = In.Pubrec
ack_holder Pubrel = In.Pubrel
ack_holder Pubcomp = In.Pubcomp

pub record FitsAck (kind : AckKind) (a : AckFields) : Type 0 where
  pub id : IsId a.id
  pub reason : a.reason < 2 ^ 8
  pub props : All (IsPropIn (ack_holder kind)) a.props

-- a filter of any text, and options whose bits 7 and 6 are 0 (MQTT 3.8.3.1)
abbrev pub IsWish : Wish → Type 0
IsWish wish = IsShortText wish.filter × (wish.options < 64)

pub record FitsSubscribe (s : SubscribeFields) : Type 0 where
  pub id : IsId s.id
  pub props : All (IsPropIn In.Subscribe) s.props
  pub filters : All IsWish s.filters

pub record FitsUnsubscribe (u : UnsubscribeFields) : Type 0 where
  pub id : IsId u.id
  pub props : All (IsPropIn In.Unsubscribe) u.props
  pub filters : All IsShortText u.filters

pub record FitsAnswer (holder : Holder) (a : AnswerFields) : Type 0 where
  pub id : IsId a.id
  pub props : All (IsPropIn holder) a.props

pub record FitsEnd (holder : Holder) (e : EndFields) : Type 0 where
  pub reason : e.reason < 2 ^ 8
  pub props : All (IsPropIn holder) e.props

-- properties stand in any order
abbrev pub Fits : PlainPacket → Type 0
Fits (Connect c) = FitsConnect c
Fits (Connack c) = FitsConnack c
Fits (Publish p) = FitsPublish p
Fits (Ack kind a) = FitsAck kind a
Fits (Subscribe s) = FitsSubscribe s
Fits (Suback s) = FitsAnswer In.Suback s
Fits (Unsubscribe u) = FitsUnsubscribe u
Fits (Unsuback u) = FitsAnswer In.Unsuback u
Fits Pingreq = Unit {0}
Fits Pingresp = Unit {0}
Fits (Disconnect d) = FitsEnd In.Disconnect d
Fits (Auth a) = FitsEnd In.Auth a

-- ---- properties in writing order

abbrev pub will_arranged : Option Will → Option Will
will_arranged None = None
will_arranged (Some will) = Some (record will { props = in_writing_order will.props })

-- with each list of properties in writing order
abbrev pub arranged : PlainPacket → PlainPacket
arranged (Connect c) = Connect (record c { props = in_writing_order c.props; will = will_arranged c.will })
arranged (Connack c) = Connack (record c { props = in_writing_order c.props })
arranged (Publish p) = Publish (record p { props = in_writing_order p.props })
arranged (Ack kind a) = Ack kind (record a { props = in_writing_order a.props })
arranged (Subscribe s) = Subscribe (record s { props = in_writing_order s.props })
arranged (Suback s) = Suback (record s { props = in_writing_order s.props })
arranged (Unsubscribe u) = Unsubscribe (record u { props = in_writing_order u.props })
arranged (Unsuback u) = Unsuback (record u { props = in_writing_order u.props })
arranged Pingreq = Pingreq
arranged Pingresp = Pingresp
arranged (Disconnect d) = Disconnect (record d { props = in_writing_order d.props })
arranged (Auth a) = Auth (record a { props = in_writing_order a.props })

-- A packet that has a spelling: its fields fit, its properties stand in writing order, and what follows its length is at
-- most 268,435,455 bytes long (MQTT 2.1.4).
pub record IsPacket (packet : PlainPacket) : Type 0 where
  pub fits : Fits packet
  pub ordered : arranged packet ≡ packet
  pub has_length : length (written_body packet) ≤ 268435455
