-- How a packet is spelled: its kind and flags, and the parts of its body in order (MQTT 2.1, 3).
use Rattle.std.specs.Prelude.{ℕ, zero, suc, ◌+◌, ◌*◌, Bool, true, false, ◌==◌, if◌then◌else◌, List, [], ◌∷◌, Option, Some, None, is_some, codes}
use Rattle.std.specs.List.{flat_map}
use Rattle.wire_fields.specs.Spelled.{spelled_u8, spelled_u16, spelled_text, spelled_bin}
use Rattle.mqtt_frame.specs.PlainFramer.{joined}
use Rattle.mqtt_frame.specs.Packets.{packet_of}
use Rattle.mqtt_props.specs.declared.prop.Prop.{Prop}
use Rattle.mqtt_props.specs.Props.{spelled_props}
use Rattle.mqtt_packet.specs.declared.packet.Will.{Will}
use Rattle.mqtt_packet.specs.declared.packet.Wish.{Wish}
use Rattle.mqtt_packet.specs.declared.packet.AckKind.{AckKind}
use Rattle.mqtt_packet.specs.declared.packet.AckKind.TheVariants.{Puback, Pubrec, Pubrel, Pubcomp}
use Rattle.mqtt_packet.specs.Packet.{PlainPacket, Connect, Connack, Publish, Ack, Subscribe, Suback, Unsubscribe, Unsuback, Pingreq, Pingresp, Disconnect, Auth, ConnectFields, AckFields, EndFields}

-- ---- the first byte

abbrev pub ack_number : AckKind → ℕ
ack_number Puback = 4
ack_number Pubrec = 5
ack_number Pubrel = 6
ack_number Pubcomp = 7

-- the number of its kind (MQTT 2.1.2)
abbrev pub kind_of : PlainPacket → ℕ
kind_of (Connect c) = 1
kind_of (Connack c) = 2
kind_of (Publish p) = 3
kind_of (Ack kind a) = ack_number kind
kind_of (Subscribe s) = 8
kind_of (Suback s) = 9
kind_of (Unsubscribe u) = 10
kind_of (Unsuback u) = 11
kind_of Pingreq = 12
kind_of Pingresp = 13
kind_of (Disconnect d) = 14
kind_of (Auth a) = 15

-- 1 where it holds
abbrev pub bit : Bool → ℕ
bit true = 1
bit false = 0

-- DUP in bit 3, QoS in bits 2 and 1, RETAIN in bit 0 (MQTT 3.3.1)
abbrev pub publish_flags : Bool → ℕ → Bool → ℕ
publish_flags dup qos retain = 8 * bit dup + 2 * qos + bit retain

-- the flags of a kind that has no choice of them (MQTT 2.1.3)
abbrev pub fixed_flags : ℕ → ℕ
fixed_flags kind = if kind == 6 then 2 else if kind == 8 then 2 else if kind == 10 then 2 else 0

abbrev pub flags_of : PlainPacket → ℕ
flags_of (Connect c) = 0
flags_of (Connack c) = 0
flags_of (Publish p) = publish_flags p.dup p.qos p.retain
flags_of (Ack kind a) = fixed_flags (ack_number kind)
flags_of (Subscribe s) = 2
flags_of (Suback s) = 0
flags_of (Unsubscribe u) = 2
flags_of (Unsuback u) = 0
flags_of Pingreq = 0
flags_of Pingresp = 0
flags_of (Disconnect d) = 0
flags_of (Auth a) = 0

-- the kind in bits 7 to 4, and the flags in bits 3 to 0 (MQTT 2.1)
abbrev pub first_byte : PlainPacket → ℕ
first_byte packet = 16 * kind_of packet + flags_of packet

-- ---- the parts of a CONNECT

-- Will Flag in bit 2, Will QoS in bits 4 and 3, Will Retain in bit 5 (MQTT 3.1.2.5 to 3.1.2.7)
abbrev pub will_flags : Option Will → ℕ
will_flags None = 0
will_flags (Some will) = 4 + 8 * will.qos + 32 * bit will.retain

-- with Clean Start in bit 1, Password Flag in bit 6, User Name Flag in bit 7 (MQTT 3.1.2.3, 3.1.2.4, 3.1.2.8, 3.1.2.9)
abbrev pub connect_flags : ConnectFields → ℕ
connect_flags c = 2 * bit c.clean + will_flags c.will + 64 * bit (is_some c.password) + 128 * bit (is_some c.user)

-- a field that is there or not
abbrev pub if_there : (List ℕ → List ℕ) → Option (List ℕ) → List ℕ
if_there spelled None = []
if_there spelled (Some bytes) = spelled bytes

-- its properties, its topic and its payload (MQTT 3.1.3.2 to 3.1.3.4)
abbrev pub spelled_will : Option Will → List ℕ
spelled_will None = []
spelled_will (Some will) = joined (spelled_props will.props ∷ spelled_text will.topic ∷ spelled_bin will.payload ∷ [])

-- the protocol's name, its version and the flags, the keep alive in seconds, the properties; then the client identifier,
-- the will, the user name and the password (MQTT 3.1.2, 3.1.3)
abbrev pub connect_body : ConnectFields → List ℕ
connect_body c = joined (
    spelled_text (codes "MQTT") ∷ spelled_u8 5 ∷ spelled_u8 (connect_flags c) ∷ spelled_u16 c.keep_alive ∷ spelled_props c.props
    ∷ spelled_text c.client ∷ spelled_will c.will ∷ if_there spelled_text c.user ∷ if_there spelled_bin c.password ∷ [])

-- ---- the parts of other packets

-- the identifier stands where the QoS is above 0 (MQTT 3.3.2.2)
abbrev pub spelled_id : ℕ → ℕ → List ℕ
spelled_id zero id = []
spelled_id (suc qos) id = spelled_u16 id

-- a filter and its options (MQTT 3.8.3)
abbrev pub spelled_wish : Wish → List ℕ
spelled_wish wish = joined (spelled_text wish.filter ∷ spelled_u8 wish.options ∷ [])

-- A body with all its parts: no short form.
abbrev pub whole_body : PlainPacket → List ℕ
whole_body (Connect c) = connect_body c
whole_body (Connack c) = joined (spelled_u8 (bit c.present) ∷ spelled_u8 c.reason ∷ spelled_props c.props ∷ [])
whole_body (Publish p) = joined (spelled_text p.topic ∷ spelled_id p.qos p.id ∷ spelled_props p.props ∷ p.payload ∷ [])
whole_body (Ack kind a) = joined (spelled_u16 a.id ∷ spelled_u8 a.reason ∷ spelled_props a.props ∷ [])
whole_body (Subscribe s) = joined (spelled_u16 s.id ∷ spelled_props s.props ∷ flat_map spelled_wish s.filters ∷ [])
whole_body (Suback s) = joined (spelled_u16 s.id ∷ spelled_props s.props ∷ s.reasons ∷ [])
whole_body (Unsubscribe u) = joined (spelled_u16 u.id ∷ spelled_props u.props ∷ flat_map spelled_text u.filters ∷ [])
whole_body (Unsuback u) = joined (spelled_u16 u.id ∷ spelled_props u.props ∷ u.reasons ∷ [])
whole_body Pingreq = []
whole_body Pingresp = []
whole_body (Disconnect d) = joined (spelled_u8 d.reason ∷ spelled_props d.props ∷ [])
whole_body (Auth a) = joined (spelled_u8 a.reason ∷ spelled_props a.props ∷ [])

-- ---- the short forms

-- the identifier, and the reason where it isn't 0, of an acknowledgement without properties (MQTT 3.4.2.1)
abbrev pub short_ack : ℕ → ℕ → List ℕ
short_ack id reason = if reason == 0 then spelled_u16 id else joined (spelled_u16 id ∷ spelled_u8 reason ∷ [])

-- nothing, or the reason where it isn't 0, of a DISCONNECT without properties (MQTT 3.14.2.1)
abbrev pub short_end : ℕ → List ℕ
short_end reason = if reason == 0 then [] else spelled_u8 reason

-- nothing where an AUTH has reason 0 and no properties; there is no other short form (MQTT 3.15.2.1)
abbrev pub auth_body : EndFields → List Prop → List ℕ
auth_body a [] = if a.reason == 0 then [] else whole_body (Auth a)
auth_body a (p ∷ ps) = whole_body (Auth a)

abbrev pub ack_body : AckKind → AckFields → List Prop → List ℕ
ack_body kind a [] = short_ack a.id a.reason
ack_body kind a (p ∷ ps) = whole_body (Ack kind a)

abbrev pub end_body : EndFields → List Prop → List ℕ
end_body d [] = short_end d.reason
end_body d (p ∷ ps) = whole_body (Disconnect d)

-- the body that is written: the shortest
abbrev pub written_body : PlainPacket → List ℕ
written_body (Connect c) = whole_body (Connect c)
written_body (Connack c) = whole_body (Connack c)
written_body (Publish p) = whole_body (Publish p)
written_body (Ack kind a) = ack_body kind a a.props
written_body (Subscribe s) = whole_body (Subscribe s)
written_body (Suback s) = whole_body (Suback s)
written_body (Unsubscribe u) = whole_body (Unsubscribe u)
written_body (Unsuback u) = whole_body (Unsuback u)
written_body Pingreq = []
written_body Pingresp = []
written_body (Disconnect d) = end_body d d.props
written_body (Auth a) = auth_body a a.props

-- the one spelling that is written: the first byte, the length of the body, and the body (MQTT 2.1)
abbrev pub written : PlainPacket → List ℕ
written packet = packet_of (first_byte packet) (written_body packet)
