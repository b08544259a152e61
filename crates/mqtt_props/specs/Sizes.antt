-- How many bytes a property and a list take, from their values alone (MQTT 2.2.2).
use Rattle.std.specs.Prelude.{ℕ, ◌+◌, List, [], ◌∷◌, length, codes, nat_lt, if◌then◌else◌, ◌≡◌, refl}
use Rattle.std.specs.List.{sum_by}
use Rattle.mqtt_props.specs.declared.prop.Prop.{Prop}
use Rattle.mqtt_props.specs.declared.prop.Prop.TheVariants.{Byte, Two, Four, Var, Text, Bin, Pair}

-- the bytes of a variable byte integer (MQTT 1.5.5)
abbrev pub var_size : ℕ → ℕ
var_size n = if nat_lt n 128 then 1 else if nat_lt n 16384 then 2 else if nat_lt n 2097152 then 3 else 4

-- the value: a text and binary data have their length in two bytes in front (MQTT 1.5.4, 1.5.6)
abbrev pub value_size : Prop → ℕ
value_size (Byte id value) = 1
value_size (Two id value) = 2
value_size (Four id value) = 4
value_size (Var value) = var_size value
value_size (Text id text) = 2 + length text
value_size (Bin id bytes) = 2 + length bytes
value_size (Pair name value) = 4 + (length name + length value)

-- the identifier, which is below 128, and the value (MQTT 2.2.2.2)
abbrev pub prop_size : Prop → ℕ
prop_size p = 1 + value_size p

-- a list without its length in front, and with it (MQTT 2.2.2.1)
abbrev pub bare_size : List Prop → ℕ
bare_size ps = sum_by prop_size ps

abbrev pub props_size : List Prop → ℕ
props_size ps = var_size (bare_size ps) + bare_size ps

-- examples: a Session Expiry Interval, a User Property, and both in a list
session_expiry : prop_size (Four 0x11 3600) ≡ 5
session_expiry = refl

user_property : prop_size (Pair (codes "a") (codes "bc")) ≡ 8
user_property = refl

both : props_size (Four 0x11 3600 ∷ Pair (codes "a") (codes "bc") ∷ []) ≡ 14
both = refl
