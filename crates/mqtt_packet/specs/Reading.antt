-- The packet that bytes spell, none where they spell none, computed part by part (MQTT 2.1, 3).
use Rattle.std.specs.Prelude.{ℕ, zero, suc, ◌/◌, ◌%◌, nat_lt, Bool, ◌&&◌, not, ◌==◌, if◌then◌else◌, List, [], ◌∷◌, length, Option, Some, None, Result, Ok, Err, codes}
use Rattle.std.specs.Str.{bytes_eq}
use Rattle.wire_fields.specs.declared.cut.Cut.{Cut}
use Rattle.wire_fields.specs.Reading.{u8_at, u16_at, var_at, text_at, bin_at}
use Rattle.mqtt_props.specs.declared.prop.Prop.{Prop}
use Rattle.mqtt_props.specs.declared.refused.PropRefused.{PropRefused}
use Rattle.mqtt_props.specs.declared.table.Holder.{Holder}
use Rattle.mqtt_props.specs.declared.table.Holder.TheVariants as In
use Rattle.mqtt_props.specs.Props.{list_at}
use Rattle.mqtt_packet.specs.declared.flags.ConnectFlags.{ConnectFlags}
use Rattle.mqtt_packet.specs.declared.flags.WillFlags.{WillFlags}
use Rattle.mqtt_packet.specs.declared.packet.Will.{Will}
use Rattle.mqtt_packet.specs.declared.packet.Wish.{Wish}
use Rattle.mqtt_packet.specs.declared.packet.AckKind.{AckKind}
use Rattle.mqtt_packet.specs.declared.packet.AckKind.TheVariants.{Puback, Pubrec, Pubrel, Pubcomp}
use Rattle.mqtt_packet.specs.Packet.{PlainPacket, Connect, Connack, Publish, ack, Subscribe, Suback, Unsubscribe, Unsuback, Pingreq, Pingresp, Disconnect, Auth, AnswerFields, EndFields}
use Rattle.mqtt_packet.specs.Spelling.{fixed_flags}
use Rattle.mqtt_packet.specs.Fits.{has_wildcard, ack_holder}

-- ---- parts

infixl 10 ◌>>=◌
abbrev pub ◌>>=◌ : {A B : Type 0} → Option A → (A → Option B) → Option B
(Some x) >>= f = f x
None >>= f = None

abbrev pub only_if : {A : Type 0} → Bool → Option A → Option A
only_if test found = if test then found else None

-- a field at the front of bytes, and the bytes behind it
abbrev pub if_field : {A : Type 0} → Result A Cut → Option A
if_field (Ok x) = Some x
if_field (Err cut) = None

abbrev pub if_list : {A : Type 0} → Result A PropRefused → Option A
if_list (Ok x) = Some x
if_list (Err refused) = None

abbrev pub byte_at : List ℕ → Option (ℕ × List ℕ)
byte_at bytes = if_field (u8_at bytes)

abbrev pub two_at : List ℕ → Option (ℕ × List ℕ)
two_at bytes = if_field (u16_at bytes)

abbrev pub name_at : List ℕ → Option (List ℕ × List ℕ)
name_at bytes = if_field (text_at bytes)

abbrev pub blob_at : List ℕ → Option (List ℕ × List ℕ)
blob_at bytes = if_field (bin_at bytes)

-- properties in writing order, whether or not one is repeated or has a bad value
abbrev pub props_at : Holder → List ℕ → Option (List Prop × List ℕ)
props_at holder bytes = if_list (list_at holder bytes)

-- a packet identifier is never 0 (MQTT 2.2.1)
abbrev pub id_at : List ℕ → Option (ℕ × List ℕ)
id_at bytes = two_at bytes >>= λ id. only_if (nat_lt 0 id.0) (Some id)

-- a topic name has no wildcard (MQTT 3.3.2.1)
abbrev pub topic_at : List ℕ → Option (List ℕ × List ℕ)
topic_at bytes = name_at bytes >>= λ topic. only_if (not (has_wildcard topic.0)) (Some topic)

-- what is at the end of a body
abbrev pub at_end : {A : Type 0} → A → List ℕ → Option A
at_end x [] = Some x
at_end x (b ∷ bytes) = None

-- the elements that fill the bytes, of which each takes a byte or more
abbrev pub in_front : {A : Type 0} → A → Option (List A) → Option (List A)
in_front x (Some xs) = Some (x ∷ xs)
in_front x None = None

unfoldable pub each_within : {A : Type 0} → (List ℕ → Option (A × List ℕ)) → ℕ → List ℕ → Option (List A)
each_within read n [] = Some []
each_within read zero (b ∷ bytes) = None
each_within read (suc n) (b ∷ bytes) = read (b ∷ bytes) >>= λ x. in_front x.0 (each_within read n x.1)

abbrev pub each_at : {A : Type 0} → (List ℕ → Option (A × List ℕ)) → List ℕ → Option (List A)
each_at read bytes = each_within read (length bytes) bytes

-- ---- CONNECT (MQTT 3.1)

abbrev pub is_odd : ℕ → Bool
is_odd n = n % 2 == 1

abbrev pub will_flags_in : ℕ → Option WillFlags
will_flags_in flags =
    if is_odd (flags / 4) then Some (record { qos = flags / 8 % 4; retain = is_odd (flags / 32) }) else None

-- bit 0 is 0, no QoS is 3, and bits 5 to 3 are 0 where there is no will (MQTT 3.1.2.3 to 3.1.2.9)
abbrev pub are_flags : ℕ → Bool
are_flags flags =
    not (is_odd flags) && (if is_odd (flags / 4) then not (flags / 8 % 4 == 3) else (flags / 8 % 8 == 0))

abbrev pub flags_in : ℕ → Option ConnectFlags
flags_in flags = only_if (are_flags flags) (Some (record {
  clean = is_odd (flags / 2);
  will = will_flags_in flags;
  password = is_odd (flags / 64);
  user = is_odd (flags / 128);
}))

-- the version of the protocol that is read (MQTT 3.1.2.1, 3.1.2.2)
abbrev pub is_mqtt_5 : List ℕ → ℕ → Bool
is_mqtt_5 name version = bytes_eq name (codes "MQTT") && (version == 5)

-- the name of the protocol and its version
abbrev pub protocol_at : List ℕ → Option ((List ℕ × ℕ) × List ℕ)
protocol_at bytes = name_at bytes >>= λ name. byte_at name.1 >>= λ version. Some ((name.0, version.0), version.1)

-- what stands in front of the properties: flags and keep alive
abbrev pub start_at : List ℕ → Option ((ConnectFlags × ℕ) × List ℕ)
start_at bytes =
    protocol_at bytes >>= λ protocol. only_if (is_mqtt_5 protocol.0.0 protocol.0.1) (
    byte_at protocol.1 >>= λ flags. flags_in flags.0 >>= λ known. two_at flags.1 >>= λ seconds. Some ((known, seconds.0), seconds.1))

-- a part of the payload that the flags tell of, or none
abbrev pub some_at : {A : Type 0} → Option (A × List ℕ) → Option (Option A × List ℕ)
some_at found = found >>= λ x. Some (Some x.0, x.1)

abbrev pub if_told : {A : Type 0} → Bool → (List ℕ → Option (A × List ℕ)) → List ℕ → Option (Option A × List ℕ)
if_told told read bytes = if told then some_at (read bytes) else Some (None, bytes)

abbrev pub will_of : WillFlags → List ℕ → Option (Will × List ℕ)
will_of flags bytes =
    props_at In.Will bytes >>= λ props. topic_at props.1 >>= λ topic. blob_at topic.1 >>= λ payload.
    Some (record { qos = flags.qos; retain = flags.retain; props = props.0; topic = topic.0; payload = payload.0 }, payload.1)

abbrev pub will_at : Option WillFlags → List ℕ → Option (Option Will × List ℕ)
will_at None bytes = Some (None, bytes)
will_at (Some flags) bytes = some_at (will_of flags bytes)

-- user name and password
abbrev pub login_at : ConnectFlags → List ℕ → Option ((Option (List ℕ) × Option (List ℕ)) × List ℕ)
login_at flags bytes =
    if_told flags.user name_at bytes >>= λ user. if_told flags.password blob_at user.1 >>= λ password. Some ((user.0, password.0), password.1)

abbrev pub connect_in : List ℕ → Option PlainPacket
connect_in body =
    start_at body >>= λ start. props_at In.Connect start.1 >>= λ props. name_at props.1 >>= λ client.
    will_at start.0.0.will client.1 >>= λ will. login_at start.0.0 will.1 >>= λ login.
    at_end (Connect (record {
      clean = start.0.0.clean;
      keep_alive = start.0.1;
      props = props.0;
      client = client.0;
      will = will.0;
      user = login.0.0;
      password = login.0.1;
    })) login.1

-- ---- CONNACK (MQTT 3.2): in its flags only bit 0 may be set

abbrev pub connack_in : List ℕ → Option PlainPacket
connack_in body =
    byte_at body >>= λ flags. only_if (nat_lt flags.0 2) (
    byte_at flags.1 >>= λ reason. props_at In.Connack reason.1 >>= λ props.
    at_end (Connack (record { present = flags.0 == 1; reason = reason.0; props = props.0 })) props.1)

-- ---- PUBLISH (MQTT 3.3)

-- no QoS 3, and no DUP with QoS 0 (MQTT 3.3.1.1, 3.3.1.2)
abbrev pub are_publish_flags : Bool → ℕ → Bool
are_publish_flags dup qos = not (qos == 3) && not (dup && (qos == 0))

-- an identifier where the QoS is above 0, else 0
abbrev pub id_if : ℕ → List ℕ → Option (ℕ × List ℕ)
id_if qos bytes = if qos == 0 then Some (0, bytes) else id_at bytes

abbrev pub message_in : Bool → ℕ → Bool → List ℕ → Option PlainPacket
message_in dup qos retain body =
    topic_at body >>= λ topic. id_if qos topic.1 >>= λ id. props_at In.Publish id.1 >>= λ props.
    Some (Publish (record { dup = dup; qos = qos; retain = retain; topic = topic.0; id = id.0; props = props.0; payload = props.1 }))

abbrev pub publish_in : ℕ → List ℕ → Option PlainPacket
publish_in flags body =
    only_if (are_publish_flags (is_odd (flags / 8)) (flags / 2 % 4))
    (message_in (is_odd (flags / 8)) (flags / 2 % 4) (is_odd flags) body)

-- ---- PUBACK, PUBREC, PUBREL and PUBCOMP (MQTT 3.4 to 3.7): what is not there is reason 0, and no properties

abbrev pub props_if_there : Holder → List ℕ → Option (List Prop × List ℕ)
props_if_there holder [] = Some ([], [])
props_if_there holder (b ∷ bytes) = props_at holder (b ∷ bytes)

abbrev pub reason_if_there : List ℕ → ℕ × List ℕ
reason_if_there [] = (0, [])
reason_if_there (b ∷ bytes) = (b, bytes)

abbrev pub ack_in : AckKind → List ℕ → Option PlainPacket
ack_in kind body =
    id_at body >>= λ id. props_if_there (ack_holder kind) (reason_if_there id.1).1 >>= λ props.
    at_end (ack kind id.0 (reason_if_there id.1).0 props.0) props.1

-- ---- SUBSCRIBE and UNSUBSCRIBE (MQTT 3.8, 3.10)

-- bits 7 and 6 of the options are 0 (MQTT 3.8.3.1)
abbrev pub wish_at : List ℕ → Option (Wish × List ℕ)
wish_at bytes =
    name_at bytes >>= λ filter. byte_at filter.1 >>= λ options.
    only_if (nat_lt options.0 64) (Some (record { filter = filter.0; options = options.0 }, options.1))

abbrev pub subscribe_in : List ℕ → Option PlainPacket
subscribe_in body =
    id_at body >>= λ id. props_at In.Subscribe id.1 >>= λ props. each_at wish_at props.1 >>= λ filters.
    Some (Subscribe (record { id = id.0; props = props.0; filters = filters }))

abbrev pub unsubscribe_in : List ℕ → Option PlainPacket
unsubscribe_in body =
    id_at body >>= λ id. props_at In.Unsubscribe id.1 >>= λ props. each_at name_at props.1 >>= λ filters.
    Some (Unsubscribe (record { id = id.0; props = props.0; filters = filters }))

-- ---- SUBACK and UNSUBACK (MQTT 3.9, 3.11)

abbrev pub answer_in : Holder → List ℕ → Option AnswerFields
answer_in holder body =
    id_at body >>= λ id. props_at holder id.1 >>= λ props. Some (record { id = id.0; props = props.0; reasons = props.1 })

abbrev pub suback_in : List ℕ → Option PlainPacket
suback_in body = answer_in In.Suback body >>= λ s. Some (Suback s)

abbrev pub unsuback_in : List ℕ → Option PlainPacket
unsuback_in body = answer_in In.Unsuback body >>= λ u. Some (Unsuback u)

-- ---- PINGREQ and PINGRESP (MQTT 3.12, 3.13)

abbrev pub nothing_in : PlainPacket → List ℕ → Option PlainPacket
nothing_in packet body = at_end packet body

-- ---- DISCONNECT and AUTH (MQTT 3.14, 3.15)

abbrev pub end_in : Holder → ℕ × List ℕ → Option EndFields
end_in holder reason =
    props_if_there holder reason.1 >>= λ props. at_end (record { reason = reason.0; props = props.0 }) props.1

abbrev pub disconnect_in : List ℕ → Option PlainPacket
disconnect_in body = end_in In.Disconnect (reason_if_there body) >>= λ d. Some (Disconnect d)

-- an AUTH that has a reason has properties, if only their length
abbrev pub auth_in : List ℕ → Option PlainPacket
auth_in [] = Some (Auth (record { reason = 0; props = [] }))
auth_in (reason ∷ bytes) =
    props_at In.Auth bytes >>= λ props. at_end (Auth (record { reason = reason; props = props.0 })) props.1

-- ---- a packet (MQTT 2.1)

-- the body of a kind whose flags are fixed
abbrev pub body_in : ℕ → List ℕ → Option PlainPacket
body_in kind body =
    if kind == 1 then connect_in body
    else if kind == 2 then connack_in body
    else if kind == 4 then ack_in Puback body
    else if kind == 5 then ack_in Pubrec body
    else if kind == 6 then ack_in Pubrel body
    else if kind == 7 then ack_in Pubcomp body
    else if kind == 8 then subscribe_in body
    else if kind == 9 then suback_in body
    else if kind == 10 then unsubscribe_in body
    else if kind == 11 then unsuback_in body
    else if kind == 12 then nothing_in Pingreq body
    else if kind == 13 then nothing_in Pingresp body
    else if kind == 14 then disconnect_in body
    else if kind == 15 then auth_in body
    else None

-- by kind and flags (MQTT 2.1.2, 2.1.3)
abbrev pub kind_in : ℕ → ℕ → List ℕ → Option PlainPacket
kind_in kind flags body =
    if kind == 3 then publish_in flags body else only_if (flags == fixed_flags kind) (body_in kind body)

-- the first byte and the body, whose length is the one that is told
abbrev pub framed_in : List ℕ → Option (ℕ × List ℕ)
framed_in [] = None
framed_in (first ∷ rest) = if_field (var_at rest) >>= λ size. only_if (size.0 == length size.1) (Some (first, size.1))

unfoldable pub packet_in : List ℕ → Option PlainPacket
packet_in bytes = framed_in bytes >>= λ framed. kind_in (framed.0 / 16) (framed.0 % 16) framed.1
