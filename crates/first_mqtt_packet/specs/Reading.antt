-- The packet that bytes spell, in the three forms that are read so far.
use Rattle.std.specs.Prelude.{ℕ, ◌+◌, ◌-◌, Bool, false, ◌&&◌, ◌||◌, not, ◌==◌, nat_lt, nat_le, if◌then◌else◌, List, [], ◌∷◌, length, take, drop, slice_index, slice_range, Option, Some, None, Result, Ok, Err, ◌≡◌, refl}
use Rattle.std.specs.List.{list_all}
use Rattle.std.specs.Option.{option_and_then}
use Rattle.std.specs.Str.{bytes_eq}
use Rattle.std.specs.Int.{w16, w32, from_be_bytes}
use Rattle.first_topic_name.specs.Pieces.{levels_of}
use Rattle.first_mqtt_packet.specs.declared.props.Prop.TheVariants.{Four}
use Rattle.first_mqtt_packet.specs.declared.packet.Packet.{Packet}
use Rattle.first_mqtt_packet.specs.declared.packet.Packet.TheVariants.{Connect, Publish, Subscribe}
use Rattle.first_mqtt_packet.specs.declared.refused.ReadRefused.{ReadRefused}
use Rattle.first_mqtt_packet.specs.declared.refused.ReadRefused.TheVariants.{Later, Memory}
use Rattle.first_mqtt_packet.specs.Written.{var_bytes}

-- how many bytes a length takes that so many bytes, itself among them, begin with (MQTT 1.5.5)
abbrev pub length_size : ℕ → ℕ
length_size total = if nat_lt total 129 then 1 else if nat_lt total 16386 then 2 else if nat_lt total 2097155 then 3 else 4

-- whether the bytes are this length in its shortest spelling; above 268,435,455 there is none (MQTT 1.5.5)
abbrev pub is_length : List ℕ → ℕ → Bool
is_length bytes n = nat_lt n 268435456 && bytes_eq bytes (var_bytes n)

-- what follows the length, where the length is in its shortest spelling and tells exactly what follows (MQTT 2.1.4)
abbrev pub body_after : List ℕ → Option (List ℕ)
body_after bytes =
    if is_length (take (length_size (length bytes)) bytes) (length bytes - length_size (length bytes))
    then Some (drop (length_size (length bytes)) bytes)
    else None

-- the number in the two bytes at a place, and in the four (MQTT 1.5.2 and 1.5.3)
abbrev pub two_at : List ℕ → ℕ → ℕ
two_at bytes at = from_be_bytes w16 (take 2 (drop at bytes))

abbrev pub four_at : List ℕ → ℕ → ℕ
four_at bytes at = from_be_bytes w32 (take 4 (drop at bytes))

-- a printable character other than the space
abbrev pub is_text_byte : ℕ → Bool
is_text_byte b = nat_le 33 b && nat_le b 126

-- neither wildcard
abbrev pub is_topic_byte : ℕ → Bool
is_topic_byte b = is_text_byte b && not ((b == 35) || (b == 43))

-- the server's own topics begin so (MQTT 4.7.2)
abbrev pub begins_with_dollar : List ℕ → Bool
begins_with_dollar [] = false
begins_with_dollar (b ∷ bs) = b == 36

-- the topic names and filters that are built so far: 1 to 1,024 bytes, at most 128 levels, no wildcard and no `$` in front
abbrev pub is_plain_topic : List ℕ → Bool
is_plain_topic text =
    nat_le 1 (length text) && nat_le (length text) 1024 && list_all is_topic_byte text && not (begins_with_dollar text) && nat_le (length (levels_of text)) 128

-- a client identifier of 1 to 256 bytes
abbrev pub is_plain_client : List ℕ → Bool
is_plain_client text = nat_le 1 (length text) && nat_le (length text) 256 && list_all is_text_byte text

-- the protocol's name and version, no flags, and 5 bytes of properties that begin with a Session Expiry Interval (MQTT 3.1.2)
abbrev pub is_connect_front : List ℕ → Bool
is_connect_front body =
    bytes_eq (take 8 body) (0 ∷ 4 ∷ 77 ∷ 81 ∷ 84 ∷ 84 ∷ 5 ∷ 0 ∷ []) && bytes_eq (take 2 (drop 10 body)) (5 ∷ 17 ∷ [])

-- the body of a CONNECT without Clean Start, with a Session Expiry Interval above 0 alone (MQTT 3.1)
abbrev pub is_connect : List ℕ → Bool
is_connect body =
    nat_le 18 (length body)
    && is_connect_front body
    && nat_lt 0 (four_at body 12)
    && (two_at body 16 == length body - 18)
    && is_plain_client (drop 18 body)

-- the CONNECT of such a body, none of another
abbrev pub connect_in : List ℕ → Option Packet
connect_in body =
    if is_connect body
    then Some (Connect false (two_at body 8) (Four 17 (four_at body 12) ∷ []) (drop 18 body) None None None)
    else None

-- all but the five bytes in front and the options behind
abbrev pub filter_at : List ℕ → List ℕ
filter_at body = slice_range body 5 (length body - 1)

-- the body of a SUBSCRIBE with one filter of QoS 1 and no properties (MQTT 3.8)
abbrev pub is_subscribe : List ℕ → Bool
is_subscribe body =
    nat_le 6 (length body)
    && nat_lt 0 (two_at body 0)
    && (slice_index body 2 == 0)
    && (two_at body 3 == length body - 6)
    && is_plain_topic (filter_at body)
    && (slice_index body (length body - 1) == 1)

-- the SUBSCRIBE of such a body, none of another
abbrev pub subscribe_in : List ℕ → Option Packet
subscribe_in body =
    if is_subscribe body
    then Some (Subscribe (two_at body 0) [] (record { filter = filter_at body; options = 1 } ∷ []))
    else None

-- the topic name at the front, and what follows it
abbrev pub topic_at : List ℕ → List ℕ
topic_at body = take (two_at body 0) (drop 2 body)

abbrev pub after_topic : List ℕ → List ℕ
after_topic body = drop (two_at body 0) (drop 2 body)

-- the body of a PUBLISH of QoS 1 without properties: after the topic the identifier, and a length of 0 (MQTT 3.3)
abbrev pub is_publish : List ℕ → Bool
is_publish body =
    nat_le (two_at body 0 + 5) (length body)
    && is_plain_topic (topic_at body)
    && nat_lt 0 (two_at (after_topic body) 0)
    && (slice_index (after_topic body) 2 == 0)

-- the PUBLISH of such a body, none of another
abbrev pub publish_in : List ℕ → Option Packet
publish_in body =
    if is_publish body
    then Some (Publish false 1 false (topic_at body) (two_at (after_topic body) 0) [] (drop 3 (after_topic body)))
    else None

-- the packet whose first byte is this, and whose body this
abbrev pub packet_in : ℕ → List ℕ → Option Packet
packet_in first body =
    if first == 16 then connect_in body
    else if first == 130 then subscribe_in body
    else if first == 50 then publish_in body
    else None

-- the packet that the bytes spell, none where they are in no form
abbrev pub packet_of : List ℕ → Option Packet
packet_of [] = None
packet_of (first ∷ rest) = option_and_then (packet_in first) (body_after rest)

-- `Later` says that there is no packet, and `Memory` nothing.
abbrev pub LaterUnless : ReadRefused → Option Packet → Type 0
LaterUnless Memory found = Unit {0}
LaterUnless Later found = found ≡ None

-- What a reader answered is this packet, or `Later` where there is none, unless memory ran out.
abbrev pub Gives : Result Packet ReadRefused → Option Packet → Type 0
Gives (Ok p) found = found ≡ Some p
Gives (Err e) found = LaterUnless e found

-- examples: a client `a` connects, subscribes to `a/b`, and publishes `hi` to it with identifier 7
connects : packet_of (16 ∷ 19 ∷ 0 ∷ 4 ∷ 77 ∷ 81 ∷ 84 ∷ 84 ∷ 5 ∷ 0 ∷ 0 ∷ 60 ∷ 5 ∷ 17 ∷ 0 ∷ 0 ∷ 14 ∷ 16 ∷ 0 ∷ 1 ∷ 97 ∷ []) ≡ Some (Connect false 60 (Four 17 3600 ∷ []) (97 ∷ []) None None None)
connects = refl

subscribes : packet_of (130 ∷ 9 ∷ 0 ∷ 1 ∷ 0 ∷ 0 ∷ 3 ∷ 97 ∷ 47 ∷ 98 ∷ 1 ∷ []) ≡ Some (Subscribe 1 [] (record { filter = 97 ∷ 47 ∷ 98 ∷ []; options = 1 } ∷ []))
subscribes = refl

publishes : packet_of (50 ∷ 10 ∷ 0 ∷ 3 ∷ 97 ∷ 47 ∷ 98 ∷ 0 ∷ 7 ∷ 0 ∷ 104 ∷ 105 ∷ []) ≡ Some (Publish false 1 false (97 ∷ 47 ∷ 98 ∷ []) 7 [] (104 ∷ 105 ∷ []))
publishes = refl

-- none of the three: identifier 0, a length that tells one byte too few, the same length in two bytes, a wildcard, and a PINGREQ
identifier_zero : packet_of (50 ∷ 10 ∷ 0 ∷ 3 ∷ 97 ∷ 47 ∷ 98 ∷ 0 ∷ 0 ∷ 0 ∷ 104 ∷ 105 ∷ []) ≡ None
identifier_zero = refl

one_byte_more : packet_of (50 ∷ 9 ∷ 0 ∷ 3 ∷ 97 ∷ 47 ∷ 98 ∷ 0 ∷ 7 ∷ 0 ∷ 104 ∷ 105 ∷ []) ≡ None
one_byte_more = refl

longer_length : packet_of (50 ∷ 138 ∷ 0 ∷ 0 ∷ 3 ∷ 97 ∷ 47 ∷ 98 ∷ 0 ∷ 7 ∷ 0 ∷ 104 ∷ 105 ∷ []) ≡ None
longer_length = refl

wildcard : packet_of (130 ∷ 9 ∷ 0 ∷ 1 ∷ 0 ∷ 0 ∷ 3 ∷ 97 ∷ 47 ∷ 43 ∷ 1 ∷ []) ≡ None
wildcard = refl

ping : packet_of (192 ∷ 0 ∷ []) ≡ None
ping = refl
