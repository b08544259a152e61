-- A property: its identifier, its range and its spelling (MQTT 2.2.2.2).
use Rattle.std.specs.Prelude.{ℕ, ◌≤◌, ◌<◌, ◌^◌, Bool, true, false, ◌&&◌, ◌==◌, nat_lt, List, [], ◌∷◌, ◌++◌, length, codes, Some, ◌≡◌, refl}
use Rattle.wire_fields.specs.Spelled.{spelled_u8, spelled_u16, spelled_u32, spelled_var, spelled_bin, spelled_text}
use Rattle.wire_fields.specs.Text.{IsText}
use Rattle.mqtt_props.specs.declared.table.Holder.{Holder}
use Rattle.mqtt_props.specs.declared.table.ValueType.TheVariants.{OneByte, TwoBytes, FourBytes, OneText, Binary}
use Rattle.mqtt_props.specs.declared.prop.Prop.{Prop}
use Rattle.mqtt_props.specs.declared.prop.Prop.TheVariants.{Byte, Two, Four, Var, Text, Bin, Pair}
use Rattle.mqtt_props.specs.Table.{value_type, stands_in}

-- its identifier; that of a Subscription Identifier is 0B, and that of a User Property 26
abbrev pub id_of : Prop → ℕ
id_of (Byte id value) = id
id_of (Two id value) = id
id_of (Four id value) = id
id_of (Var value) = 0x0B
id_of (Text id text) = id
id_of (Bin id bytes) = id
id_of (Pair name value) = 0x26

-- a text that has a spelling (MQTT 1.5.4)
abbrev pub IsShortText : List ℕ → Type 0
IsShortText text = (length text ≤ 65535) × IsText text

-- the identifier is one of its type, and the value in the type's range
abbrev pub IsProp : Prop → Type 0
IsProp (Byte id value) = (value_type id ≡ Some OneByte) × (value < 2 ^ 8)
IsProp (Two id value) = (value_type id ≡ Some TwoBytes) × (value < 2 ^ 16)
IsProp (Four id value) = (value_type id ≡ Some FourBytes) × (value < 2 ^ 32)
IsProp (Var value) = value ≤ 268435455
IsProp (Text id text) = (value_type id ≡ Some OneText) × IsShortText text
IsProp (Bin id bytes) = (value_type id ≡ Some Binary) × (length bytes ≤ 65535)
IsProp (Pair name value) = IsShortText name × IsShortText value

-- it may stand there too
abbrev pub IsPropIn : Holder → Prop → Type 0
IsPropIn holder p = IsProp p × (stands_in (id_of p) holder ≡ true)

abbrev pub spelled_value : Prop → List ℕ
spelled_value (Byte id value) = spelled_u8 value
spelled_value (Two id value) = spelled_u16 value
spelled_value (Four id value) = spelled_u32 value
spelled_value (Var value) = spelled_var value
spelled_value (Text id text) = spelled_text text
spelled_value (Bin id bytes) = spelled_bin bytes
spelled_value (Pair name value) = spelled_text name ++ spelled_text value

-- the identifier as a variable byte integer, and the value (MQTT 2.2.2.2)
abbrev pub spelled_prop : Prop → List ℕ
spelled_prop prop = spelled_var (id_of prop) ++ spelled_value prop

-- a value that the standard does not allow: a byte other than 0 and 1, and a Receive Maximum, a Maximum Packet Size
-- and a Subscription Identifier of 0 (MQTT 3.1.2.11.3, 3.1.2.11.4, 3.8.2.1.2)
abbrev pub is_bad : Prop → Bool
is_bad (Byte id value) = nat_lt 1 value
is_bad (Two id value) = (id == 0x21) && (value == 0)
is_bad (Four id value) = (id == 0x27) && (value == 0)
is_bad (Var value) = value == 0
is_bad (Text id text) = false
is_bad (Bin id bytes) = false
is_bad (Pair name value) = false

-- examples
session_expiry : spelled_prop (Four 0x11 3600) ≡ 0x11 ∷ 0x00 ∷ 0x00 ∷ 0x0E ∷ 0x10 ∷ []
session_expiry = refl

user_property : spelled_prop (Pair (codes "a") (codes "b")) ≡ 0x26 ∷ 0x00 ∷ 0x01 ∷ 0x61 ∷ 0x00 ∷ 0x01 ∷ 0x62 ∷ []
user_property = refl

subscription_identifier : spelled_prop (Var 128) ≡ 0x0B ∷ 0x80 ∷ 0x01 ∷ []
subscription_identifier = refl
