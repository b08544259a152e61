-- What the calls give that read a part of a packet.
use Rattle.std.specs.Prelude.{ℕ, ◌≡◌, List, [], drop, Option, Some, None, Result, Ok, Err}
use Rattle.mqtt_props.specs.declared.refused.PropRefused.{PropRefused}
use Rattle.mqtt_props.specs.declared.refused.PropRefused.TheVariants as Props
use Rattle.mqtt_props.specs.declared.prop.Prop.{Prop}
use Rattle.mqtt_packet.specs.Packet.{AnswerFields}
use Rattle.mqtt_packet.specs.declared.refused.ReadRefused.{ReadRefused}
use Rattle.mqtt_packet.specs.declared.refused.ReadRefused.TheVariants.{Version, Malformed, Protocol, Memory}

-- a list of properties that is refused makes a packet malformed
abbrev pub refusal_of : PropRefused → ReadRefused
refusal_of Props.Unknown = Malformed
refusal_of Props.Misplaced = Malformed
refusal_of Props.Spelling = Malformed
refusal_of Props.Repeated = Malformed
refusal_of Props.BadValue = Malformed
refusal_of Props.Memory = Memory

-- a refusal says that there is no such part, and want of memory says nothing
abbrev pub IsNone : ReadRefused → Type 0 → Type 0
IsNone Malformed claim = claim
IsNone Memory claim = Unit {0}
IsNone Version claim = ⊥
IsNone (Protocol rule) claim = ⊥

-- what a call gave that reads a part, and moves the place behind it to `new`
abbrev pub TakesPart : {X Y : Type 0} → (X → Y) → Result X ReadRefused → Option (Y × List ℕ) → List ℕ → ℕ → Type 0
TakesPart view (Ok x) read bytes new = read ≡ Some (view x, drop new bytes)
TakesPart view (Err e) read bytes new = IsNone e (read ≡ None)

-- what a call gave on bytes that it reads to their end
abbrev pub GivesPart : {X Y : Type 0} → (X → Y) → Result X ReadRefused → Option Y → Type 0
GivesPart view (Ok x) read = read ≡ Some (view x)
GivesPart view (Err e) read = IsNone e (read ≡ None)

-- some bytes are left
abbrev pub IsMore : List ℕ → Type 0
IsMore bytes = bytes ≡ [] → ⊥

-- the fields of a SUBACK or an UNSUBACK
abbrev pub answer_of : ℕ × List Prop × List ℕ → AnswerFields
answer_of found = record { id = found.0; props = found.1; reasons = found.2 }
