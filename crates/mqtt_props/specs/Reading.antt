-- Reading a property at the front of bytes: the property and the bytes behind it (MQTT 2.2.2.2).
use Rattle.std.specs.Prelude.{ℕ, ◌≤◌, ◌≡◌, ◌⊎◌, List, length, drop, Option, Some, None, Result, Ok, Err, if◌then◌else◌}
use Rattle.wire_fields.specs.declared.cut.Cut.{Cut}
use Rattle.wire_fields.specs.Reading.{◌>>=◌, u8_at, u16_at, u32_at, var_at, bin_at, text_at}
use Rattle.mqtt_props.specs.declared.table.Holder.{Holder}
use Rattle.mqtt_props.specs.declared.table.ValueType.{ValueType}
use Rattle.mqtt_props.specs.declared.table.ValueType.TheVariants.{OneByte, TwoBytes, FourBytes, Variable, OneText, Binary, TwoTexts}
use Rattle.mqtt_props.specs.declared.refused.PropRefused.{PropRefused}
use Rattle.mqtt_props.specs.declared.refused.PropRefused.TheVariants.{Unknown, Misplaced, Spelling, Repeated, BadValue, Memory}
use Rattle.mqtt_props.specs.declared.prop.Prop.{Prop}
use Rattle.mqtt_props.specs.declared.prop.Prop.TheVariants.{Byte, Two, Four, Var, Text, Bin, Pair}
use Rattle.mqtt_props.specs.Table.{value_type, stands_in}

-- what comes next, where the first was read
abbrev pub then_read : {A B : Type 0} → Result A PropRefused → (A → Result B PropRefused) → Result B PropRefused
then_read (Ok x) f = f x
then_read (Err e) f = Err e

-- a field that isn't there is a fault in spelling
abbrev pub or_spelling : {A : Type 0} → Result A Cut → Result A PropRefused
or_spelling (Ok x) = Ok x
or_spelling (Err e) = Err Spelling

-- two texts, one behind the other
abbrev pub texts_at : List ℕ → Result ((List ℕ × List ℕ) × List ℕ) Cut
texts_at bytes = text_at bytes >>= λ a. text_at a.1 >>= λ b. Ok ((a.0, b.0), b.1)

-- the property that is made of a field
abbrev pub made : {Y : Type 0} → (Y → Prop) → Result (Y × List ℕ) Cut → Result (Prop × List ℕ) PropRefused
made make (Ok x) = Ok (make x.0, x.1)
made make (Err e) = Err Spelling

-- the property with this identifier whose value, of this type, stands at the front
abbrev pub value_at : ValueType → ℕ → List ℕ → Result (Prop × List ℕ) PropRefused
value_at OneByte id bytes = made (Byte id) (u8_at bytes)
value_at TwoBytes id bytes = made (Two id) (u16_at bytes)
value_at FourBytes id bytes = made (Four id) (u32_at bytes)
value_at Variable id bytes = made Var (var_at bytes)
value_at OneText id bytes = made (Text id) (text_at bytes)
value_at Binary id bytes = made (Bin id) (bin_at bytes)
value_at TwoTexts id bytes = made (λ t. Pair t.0 t.1) (texts_at bytes)

-- the type of an identifier's value, if there is one and it may stand there
abbrev pub if_it_stands : ℕ → Holder → Option ValueType → Result ValueType PropRefused
if_it_stands id holder None = Err Unknown
if_it_stands id holder (Some value) = if stands_in id holder then Ok value else Err Misplaced

abbrev pub type_in : ℕ → Holder → Result ValueType PropRefused
type_in id holder = if_it_stands id holder (value_type id)

-- the identifier, a variable byte integer, and then its value
abbrev pub named_at : Holder → ℕ × List ℕ → Result (Prop × List ℕ) PropRefused
named_at holder id = then_read (type_in id.0 holder) (λ value. value_at value id.0 id.1)

unfoldable pub prop_at : Holder → List ℕ → Result (Prop × List ℕ) PropRefused
prop_at holder bytes = then_read (or_spelling (var_at bytes)) (named_at holder)

-- a refusal for what the bytes are, and not for how often a property is there or what is in it
abbrev pub IsOfBytes : PropRefused → Type 0
IsOfBytes e = (e ≡ Unknown) ⊎ ((e ≡ Misplaced) ⊎ (e ≡ Spelling))

-- want of memory says nothing of the bytes
abbrev pub UnlessMemory : PropRefused → Type 0 → Type 0
UnlessMemory Memory claim = Unit {0}
UnlessMemory Unknown claim = claim
UnlessMemory Misplaced claim = claim
UnlessMemory Spelling claim = claim
UnlessMemory Repeated claim = claim
UnlessMemory BadValue claim = claim

-- What a call gave that reads at the place `old`: what reading there gives, with `new` behind it; on a refusal the
-- place stays.
abbrev pub TakesOne : {Y : Type 0} → Result Y PropRefused → Result (Y × List ℕ) PropRefused → List ℕ → ℕ → ℕ → Type 0
TakesOne (Ok x) read bytes old new = (read ≡ Ok (x, drop new bytes)) × (old ≤ new) × (new ≤ length bytes)
TakesOne (Err e) read bytes old new = UnlessMemory e (read ≡ Err e) × (new ≡ old)

-- the same of a call that gives the identifier, as a byte, beside the type of its value
abbrev pub TypeGiven : Result (ℕ × ValueType) PropRefused → ℕ → Result ValueType PropRefused → Type 0
TypeGiven (Ok found) id read = (found.0 ≡ id) × (read ≡ Ok found.1)
TypeGiven (Err e) id read = (read ≡ Err e) × ((e ≡ Unknown) ⊎ (e ≡ Misplaced))
