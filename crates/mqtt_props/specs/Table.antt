-- The table of properties: the type of each, what it may stand in, and which may repeat (MQTT 2.2.2.2, table 2-4).
use Rattle.std.specs.Prelude.{ℕ, Bool, true, false, ◌&&◌, ◌||◌, ◌==◌, List, [], ◌∷◌, Option, Some, None, if◌then◌else◌, ◌≡◌, refl}
use Rattle.std.specs.List.{list_any}
use Rattle.mqtt_props.specs.declared.table.Holder.{Holder}
use Rattle.mqtt_props.specs.declared.table.Holder.TheVariants.{Connect, Connack, Publish, Puback, Pubrec, Pubrel, Pubcomp, Subscribe, Suback, Unsubscribe, Unsuback, Pingreq, Pingresp, Disconnect, Auth, Will}
use Rattle.mqtt_props.specs.declared.table.ValueType.{ValueType}
use Rattle.mqtt_props.specs.declared.table.ValueType.TheVariants.{OneByte, TwoBytes, FourBytes, Variable, OneText, Binary, TwoTexts}

-- a property: its identifier, the type of its value, and what it may stand in
pub record Row : Type 0 where
  pub identifier : ℕ
  pub value : ValueType
  pub holders : List Holder

abbrev pub row : ℕ → ValueType → List Holder → Row
row identifier value holders = record { identifier = identifier; value = value; holders = holders }

-- what every property of a message may stand in
abbrev pub messages : List Holder
messages = Publish ∷ Will ∷ []

-- every kind but PINGREQ and PINGRESP, and Will
abbrev pub all_holders : List Holder
all_holders = Connect ∷ Connack ∷ Publish ∷ Puback ∷ Pubrec ∷ Pubrel ∷ Pubcomp ∷ Subscribe ∷ Suback ∷ Unsubscribe ∷ Unsuback ∷ Disconnect ∷ Auth ∷ Will ∷ []

abbrev pub rows : List Row
rows =
    row 0x01 OneByte messages
    ∷ row 0x02 FourBytes messages
    ∷ row 0x03 OneText messages
    ∷ row 0x08 OneText messages
    ∷ row 0x09 Binary messages
    ∷ row 0x0B Variable (Publish ∷ Subscribe ∷ [])
    ∷ row 0x11 FourBytes (Connect ∷ Connack ∷ Disconnect ∷ [])
    ∷ row 0x12 OneText (Connack ∷ [])
    ∷ row 0x13 TwoBytes (Connack ∷ [])
    ∷ row 0x15 OneText (Connect ∷ Connack ∷ Auth ∷ [])
    ∷ row 0x16 Binary (Connect ∷ Connack ∷ Auth ∷ [])
    ∷ row 0x17 OneByte (Connect ∷ [])
    ∷ row 0x18 FourBytes (Will ∷ [])
    ∷ row 0x19 OneByte (Connect ∷ [])
    ∷ row 0x1A OneText (Connack ∷ [])
    ∷ row 0x1C OneText (Connack ∷ Disconnect ∷ [])
    ∷ row 0x1F OneText (Connack ∷ Puback ∷ Pubrec ∷ Pubrel ∷ Pubcomp ∷ Suback ∷ Unsuback ∷ Disconnect ∷ Auth ∷ [])
    ∷ row 0x21 TwoBytes (Connect ∷ Connack ∷ [])
    ∷ row 0x22 TwoBytes (Connect ∷ Connack ∷ [])
    ∷ row 0x23 TwoBytes (Publish ∷ [])
    ∷ row 0x24 OneByte (Connack ∷ [])
    ∷ row 0x25 OneByte (Connack ∷ [])
    ∷ row 0x26 TwoTexts all_holders
    ∷ row 0x27 FourBytes (Connect ∷ Connack ∷ [])
    ∷ row 0x28 OneByte (Connack ∷ [])
    ∷ row 0x29 OneByte (Connack ∷ [])
    ∷ row 0x2A OneByte (Connack ∷ [])
    ∷ []

-- the number of a packet's kind (MQTT 2.1.2), and 0 for a will
abbrev pub kind_number : Holder → ℕ
kind_number Connect = 1
kind_number Connack = 2
kind_number Publish = 3
kind_number Puback = 4
kind_number Pubrec = 5
kind_number Pubrel = 6
kind_number Pubcomp = 7
kind_number Subscribe = 8
kind_number Suback = 9
kind_number Unsubscribe = 10
kind_number Unsuback = 11
kind_number Pingreq = 12
kind_number Pingresp = 13
kind_number Disconnect = 14
kind_number Auth = 15
kind_number Will = 0

abbrev pub is_same_holder : Holder → Holder → Bool
is_same_holder a b = kind_number a == kind_number b

abbrev pub type_number : ValueType → ℕ
type_number OneByte = 1
type_number TwoBytes = 2
type_number FourBytes = 3
type_number Variable = 4
type_number OneText = 5
type_number Binary = 6
type_number TwoTexts = 7

-- whether some row has the identifier and passes a test
abbrev pub has_row : (Row → Bool) → ℕ → Bool
has_row test identifier = list_any (λ (r : Row). test r && (r.identifier == identifier)) rows

-- whether a property with this identifier has a value of this type
abbrev pub is_of_type : ValueType → ℕ → Bool
is_of_type value identifier = has_row (λ r. type_number r.value == type_number value) identifier

-- the type of its value, none where there is no such property
abbrev pub value_type : ℕ → Option ValueType
value_type identifier =
    if is_of_type OneByte identifier then Some OneByte
    else if is_of_type TwoBytes identifier then Some TwoBytes
    else if is_of_type FourBytes identifier then Some FourBytes
    else if is_of_type Variable identifier then Some Variable
    else if is_of_type OneText identifier then Some OneText
    else if is_of_type Binary identifier then Some Binary
    else if is_of_type TwoTexts identifier then Some TwoTexts
    else None

-- whether a property with this identifier may stand there
abbrev pub stands_in : ℕ → Holder → Bool
stands_in identifier holder = has_row (λ r. list_any (is_same_holder holder) r.holders) identifier

-- whether several properties with this identifier may stand there: User Properties, and Subscription Identifiers in
-- PUBLISH
abbrev pub may_repeat : ℕ → Holder → Bool
may_repeat identifier holder = (identifier == 0x26) || (is_same_holder Publish holder && (identifier == 0x0B))

-- examples: a will's delay stands in the will alone, and a User Property not in PINGREQ
delay_in_will : stands_in 0x18 Will ≡ true
delay_in_will = refl

delay_in_connect : stands_in 0x18 Connect ≡ false
delay_in_connect = refl

pair_in_pingreq : stands_in 0x26 Pingreq ≡ false
pair_in_pingreq = refl

receive_maximum_is_two : value_type 0x21 ≡ Some TwoBytes
receive_maximum_is_two = refl

no_zero : value_type 0x00 ≡ None
no_zero = refl

no_fourteen : value_type 0x14 ≡ None
no_fourteen = refl

alias_repeats_not : may_repeat 0x23 Publish ≡ false
alias_repeats_not = refl

identifiers_repeat : may_repeat 0x0B Publish ≡ true
identifiers_repeat = refl
