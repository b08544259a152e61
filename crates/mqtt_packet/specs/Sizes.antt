-- How long a packet is as it is written, as a number computed from its fields (MQTT 2.1.4, 3).
use Rattle.std.specs.Prelude.{ℕ, zero, suc, ◌+◌, ◌==◌, nat_le, if◌then◌else◌, false, List, [], ◌∷◌, length, Option, Some, None, codes, ◌≡◌, refl}
use Rattle.std.specs.List.{sum_by}
use Rattle.mqtt_props.specs.declared.prop.Prop.{Prop}
use Rattle.mqtt_props.specs.Sizes.{var_size, props_size}
use Rattle.mqtt_packet.specs.declared.packet.Will.{Will}
use Rattle.mqtt_packet.specs.declared.packet.Wish.{Wish}
use Rattle.mqtt_packet.specs.declared.packet.AckKind.TheVariants.{Puback}
use Rattle.mqtt_packet.specs.Packet.{PlainPacket, Connect, Connack, Publish, Ack, ack, Subscribe, Suback, Unsubscribe, Unsuback, Pingreq, Pingresp, Disconnect, Auth, ConnectFields, PublishFields}

-- a text or binary data behind its length in two bytes (MQTT 1.5.4, 1.5.6)
abbrev pub sized : List ℕ → ℕ
sized bytes = 2 + length bytes

abbrev pub sized_if : Option (List ℕ) → ℕ
sized_if None = 0
sized_if (Some bytes) = sized bytes

abbrev pub will_size : Option Will → ℕ
will_size None = 0
will_size (Some will) = props_size will.props + sized will.topic + sized will.payload

-- name, version, flags and keep alive take ten bytes
abbrev pub connect_size : ConnectFields → ℕ
connect_size c = 10 + props_size c.props + sized c.client + will_size c.will + sized_if c.user + sized_if c.password

abbrev pub id_size : ℕ → ℕ
id_size zero = 0
id_size (suc qos) = 2

abbrev pub publish_size : PublishFields → ℕ
publish_size p = sized p.topic + id_size p.qos + props_size p.props + length p.payload

-- a reason, where it isn't 0
abbrev pub reason_size : ℕ → ℕ
reason_size reason = if reason == 0 then 0 else 1

-- reason and properties, in their short forms
abbrev pub rest_size : ℕ → List Prop → ℕ
rest_size reason [] = reason_size reason
rest_size reason (p ∷ ps) = 1 + props_size (p ∷ ps)

-- the same of an AUTH, which has no form with the reason alone
abbrev pub auth_size : ℕ → List Prop → ℕ
auth_size reason [] = if reason == 0 then 0 else 2
auth_size reason (p ∷ ps) = 1 + props_size (p ∷ ps)

abbrev pub wish_size : Wish → ℕ
wish_size wish = sized wish.filter + 1

-- what stands behind the length
abbrev pub body_size : PlainPacket → ℕ
body_size (Connect c) = connect_size c
body_size (Connack c) = 2 + props_size c.props
body_size (Publish p) = publish_size p
body_size (Ack kind a) = 2 + rest_size a.reason a.props
body_size (Subscribe s) = 2 + props_size s.props + sum_by wish_size s.filters
body_size (Suback s) = 2 + props_size s.props + length s.reasons
body_size (Unsubscribe u) = 2 + props_size u.props + sum_by sized u.filters
body_size (Unsuback u) = 2 + props_size u.props + length u.reasons
body_size Pingreq = 0
body_size Pingresp = 0
body_size (Disconnect d) = rest_size d.reason d.props
body_size (Auth a) = auth_size a.reason a.props

-- the first byte, the length and what stands behind it
abbrev pub packet_size : PlainPacket → ℕ
packet_size packet = 1 + var_size (body_size packet) + body_size packet

-- examples: a message of five bytes to `a/b` with QoS 1, an acknowledgement of it, and one that tells a reason
message : packet_size (Publish (record { dup = false; qos = 1; retain = false; topic = codes "a/b"; id = 7; props = []; payload = codes "21.50" })) ≡ 15
message = refl

acknowledged : packet_size (ack Puback 7 0 []) ≡ 4
acknowledged = refl

with_a_reason : packet_size (ack Puback 7 0x10 []) ≡ 5
with_a_reason = refl

-- its length, where a Remaining Length tells that of the body (MQTT 2.1.4)
abbrev pub told_size : PlainPacket → Option ℕ
told_size packet = if nat_le (body_size packet) 268435455 then Some (packet_size packet) else None
