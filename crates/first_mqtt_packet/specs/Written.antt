-- The bytes of a packet as the broker writes it (MQTT 2 and 3).
use Rattle.std.specs.Prelude.{ℕ, ◌+◌, ◌*◌, ◌/◌, ◌%◌, nat_lt, Bool, true, false, if◌then◌else◌, List, [], ◌∷◌, ◌++◌, length, Option, Some, None, is_some, codes, ◌≡◌, refl, ◌==◌}
use Rattle.std.specs.List.{flat_map}
use Rattle.std.specs.Int.{w16, w32, to_be_bytes}
use Rattle.first_mqtt_packet.specs.declared.props.Prop.{Prop}
use Rattle.first_mqtt_packet.specs.declared.props.Prop.TheVariants.{Byte, Two, Four, Var, Text, Bin, Pair}
use Rattle.first_mqtt_packet.specs.declared.packet.Wish.{Wish}
use Rattle.first_mqtt_packet.specs.declared.packet.Will.{Will}
use Rattle.first_mqtt_packet.specs.declared.packet.Packet.{Packet}
use Rattle.first_mqtt_packet.specs.declared.packet.Packet.TheVariants.{Connect, Connack, Publish, Puback, Subscribe, Suback, Disconnect}

-- A variable byte integer in its shortest spelling (MQTT 1.5.5). Above 268,435,455 there is none.
abbrev pub var_bytes : ℕ → List ℕ
var_bytes n =
    if nat_lt n 128 then n ∷ []
    else if nat_lt n 16384 then (n % 128 + 128) ∷ (n / 128) ∷ []
    else if nat_lt n 2097152 then (n % 128 + 128) ∷ (n / 128 % 128 + 128) ∷ (n / 16384) ∷ []
    else (n % 128 + 128) ∷ (n / 128 % 128 + 128) ∷ (n / 16384 % 128 + 128) ∷ (n / 2097152 % 256) ∷ []

-- a text or binary field: its length in two bytes, and its bytes (MQTT 1.5.4 and 1.5.6)
abbrev pub field : List ℕ → List ℕ
field bytes = to_be_bytes w16 (length bytes) ++ bytes

-- a property behind its identifier (MQTT 2.2.2.2)
abbrev pub prop_bytes : Prop → List ℕ
prop_bytes (Byte identifier value) = identifier ∷ value ∷ []
prop_bytes (Two identifier value) = identifier ∷ to_be_bytes w16 value
prop_bytes (Four identifier value) = identifier ∷ to_be_bytes w32 value
prop_bytes (Var value) = 11 ∷ var_bytes value
prop_bytes (Text identifier text) = identifier ∷ field text
prop_bytes (Bin identifier bytes) = identifier ∷ field bytes
prop_bytes (Pair name value) = 38 ∷ field name ++ field value

-- properties behind their length (MQTT 2.2.2)
abbrev pub props_bytes : List Prop → List ℕ
props_bytes props = var_bytes (length (flat_map prop_bytes props)) ++ flat_map prop_bytes props

-- a packet of this first byte (MQTT 2.1)
abbrev pub framed : ℕ → List ℕ → List ℕ
framed first body = first ∷ var_bytes (length body) ++ body

-- a number that is 1 where the test holds
abbrev pub bit : Bool → ℕ
bit true = 1
bit false = 0

abbrev pub maybe_field : Option (List ℕ) → List ℕ
maybe_field None = []
maybe_field (Some bytes) = field bytes

-- the will's part of the payload, and of the flags (MQTT 3.1.3.2 to 3.1.3.4, 3.1.2.5 to 3.1.2.7)
abbrev pub will_bytes : Option Will → List ℕ
will_bytes None = []
will_bytes (Some will) = props_bytes will.props ++ field will.topic ++ field will.payload

abbrev pub will_flags : Option Will → ℕ
will_flags None = 0
will_flags (Some will) = 4 + 8 * (will.qos % 4) + 32 * bit will.retain

abbrev pub connect_flags : Bool → Option Will → Option (List ℕ) → Option (List ℕ) → ℕ
connect_flags clean will user password = 2 * bit clean + will_flags will + 128 * bit (is_some user) + 64 * bit (is_some password)

-- the topic name's place in a PUBLISH is followed by the identifier where the QoS is above 0 (MQTT 3.3.2)
abbrev pub maybe_id : ℕ → ℕ → List ℕ
maybe_id qos id = if qos == 0 then [] else to_be_bytes w16 id

abbrev pub publish_first : Bool → ℕ → Bool → ℕ
publish_first dup qos retain = 48 + 8 * bit dup + 2 * (qos % 4) + bit retain

-- what follows the identifier of an acknowledgement: nothing for success, else the reason, and then the properties (MQTT 3.4.2)
abbrev pub ack_rest : ℕ → List Prop → List ℕ
ack_rest reason [] = if reason == 0 then [] else reason ∷ []
ack_rest reason (p ∷ ps) = reason ∷ props_bytes (p ∷ ps)

abbrev pub wish_bytes : Wish → List ℕ
wish_bytes wish = field wish.filter ++ wish.options ∷ []

-- the one spelling that is written
abbrev pub written : Packet → List ℕ
written (Connect clean keep_alive props client will user password) =
    framed 16 (field (codes "MQTT") ++ 5 ∷ connect_flags clean will user password ∷ to_be_bytes w16 keep_alive ++ props_bytes props ++ field client ++ will_bytes will ++ maybe_field user ++ maybe_field password)
written (Connack present reason props) = framed 32 (bit present ∷ reason ∷ props_bytes props)
written (Publish dup qos retain topic id props payload) =
    framed (publish_first dup qos retain) (field topic ++ maybe_id qos id ++ props_bytes props ++ payload)
written (Puback id reason props) = framed 64 (to_be_bytes w16 id ++ ack_rest reason props)
written (Subscribe id props filters) = framed 130 (to_be_bytes w16 id ++ props_bytes props ++ flat_map wish_bytes filters)
written (Suback id props reasons) = framed 144 (to_be_bytes w16 id ++ props_bytes props ++ reasons)
written (Disconnect reason props) = framed 224 (ack_rest reason props)

-- examples: the acknowledgement of identifier 7, a close with reason 131, a SUBACK that grants QoS 1
acknowledged : written (Puback 7 0 []) ≡ 64 ∷ 2 ∷ 0 ∷ 7 ∷ []
acknowledged = refl

closed : written (Disconnect 131 []) ≡ 224 ∷ 1 ∷ 131 ∷ []
closed = refl

granted : written (Suback 1 [] (1 ∷ [])) ≡ 144 ∷ 4 ∷ 0 ∷ 1 ∷ 0 ∷ 1 ∷ []
granted = refl

-- a CONNACK with the server's Receive Maximum 32, no retained messages, packets of 1 MiB and no shared subscriptions
accepted : written (Connack false 0 (Two 33 32 ∷ Byte 37 0 ∷ Four 39 1048576 ∷ Byte 42 0 ∷ [])) ≡ 32 ∷ 15 ∷ 0 ∷ 0 ∷ 12 ∷ 33 ∷ 0 ∷ 32 ∷ 37 ∷ 0 ∷ 39 ∷ 0 ∷ 16 ∷ 0 ∷ 0 ∷ 42 ∷ 0 ∷ []
accepted = refl

-- the three forms that are read
connecting : written (Connect false 60 (Four 17 3600 ∷ []) (97 ∷ []) None None None) ≡ 16 ∷ 19 ∷ 0 ∷ 4 ∷ 77 ∷ 81 ∷ 84 ∷ 84 ∷ 5 ∷ 0 ∷ 0 ∷ 60 ∷ 5 ∷ 17 ∷ 0 ∷ 0 ∷ 14 ∷ 16 ∷ 0 ∷ 1 ∷ 97 ∷ []
connecting = refl

subscribing : written (Subscribe 1 [] (record { filter = 97 ∷ 47 ∷ 98 ∷ []; options = 1 } ∷ [])) ≡ 130 ∷ 9 ∷ 0 ∷ 1 ∷ 0 ∷ 0 ∷ 3 ∷ 97 ∷ 47 ∷ 98 ∷ 1 ∷ []
subscribing = refl

publishing : written (Publish false 1 false (97 ∷ 47 ∷ 98 ∷ []) 7 [] (104 ∷ 105 ∷ [])) ≡ 50 ∷ 10 ∷ 0 ∷ 3 ∷ 97 ∷ 47 ∷ 98 ∷ 0 ∷ 7 ∷ 0 ∷ 104 ∷ 105 ∷ []
publishing = refl
