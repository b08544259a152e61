-- Lists of properties: read in any order, kept and written by ascending identifier (MQTT 2.2.2).
use Rattle.std.specs.Prelude.{ℕ, zero, suc, Bool, false, ◌&&◌, ◌||◌, not, ◌==◌, List, [], ◌∷◌, ◌++◌, length, take, drop, map, ◌≤◌, nat_le, All, Option, Some, None, Result, Ok, Err, if◌then◌else◌, ◌≡◌}
use Rattle.std.specs.List.{list_any, list_all, filter, flat_map}
use Rattle.wire_fields.specs.Spelled.{spelled_var}
use Rattle.wire_fields.specs.Reading.{var_at, AreBytes}
use Rattle.mqtt_props.specs.declared.table.Holder.{Holder}
use Rattle.mqtt_props.specs.declared.refused.PropRefused.{PropRefused}
use Rattle.mqtt_props.specs.declared.refused.PropRefused.TheVariants.{Spelling, Repeated, BadValue}
use Rattle.mqtt_props.specs.declared.prop.Prop.{Prop}
use Rattle.mqtt_props.specs.Table.{Row, rows, stands_in, may_repeat}
use Rattle.mqtt_props.specs.Prop.{id_of, is_bad, spelled_prop, IsProp, IsPropIn}
use Rattle.mqtt_props.specs.Reading.{then_read, or_spelling, prop_at, UnlessMemory}

-- one property, and those behind it
abbrev pub in_front : Prop → Result (List Prop) PropRefused → Result (List Prop) PropRefused
in_front p (Ok ps) = Ok (p ∷ ps)
in_front p (Err e) = Err e

-- the properties that fill the bytes, at most so many
unfoldable pub each_within : ℕ → Holder → List ℕ → Result (List Prop) PropRefused
each_within zero holder bytes = Ok []
each_within (suc n) holder [] = Ok []
each_within (suc n) holder (b ∷ bytes) =
    then_read (prop_at holder (b ∷ bytes)) (λ p. in_front p.0 (each_within n holder p.1))

-- the properties that fill the bytes, as they come: each takes a byte at least
abbrev pub each_at : Holder → List ℕ → Result (List Prop) PropRefused
each_at holder bytes = each_within (length bytes) holder bytes

-- whether a property of this identifier is among them
abbrev pub has_identifier : ℕ → List Prop → Bool
has_identifier id ps = list_any (λ p. id_of p == id) ps

-- whether there is a second one where only one may stand
abbrev pub has_repeated : Holder → List Prop → Bool
has_repeated holder [] = false
has_repeated holder (p ∷ ps) =
    (not (may_repeat (id_of p) holder) && has_identifier (id_of p) ps) || has_repeated holder ps

-- whether each may stand there
abbrev pub all_stand_in : Holder → List Prop → Bool
all_stand_in holder ps = list_all (λ p. stands_in (id_of p) holder) ps

-- those of each identifier in turn, in their order
abbrev pub gathered : List ℕ → List Prop → List Prop
gathered [] ps = []
gathered (id ∷ ids) ps = filter (λ p. id_of p == id) ps ++ gathered ids ps

abbrev pub identifiers : List ℕ
identifiers = map (λ (r : Row). r.identifier) rows

-- by ascending identifier, equal ones in their order
unfoldable pub in_writing_order : List Prop → List Prop
in_writing_order ps = gathered identifiers ps

-- a list that has the properties of another one, which stand as they may anywhere, in writing order
pub record IsArranged (holder : Holder) (qs ps : List Prop) : Type 0 where
  pub fits : All (IsPropIn holder) qs
  pub ordered : in_writing_order qs ≡ ps

-- the properties that fill the bytes, in writing order, whether or not one is repeated or has a bad value
abbrev pub bare_list : Holder → List ℕ → Result (List Prop) PropRefused
bare_list holder bytes = then_read (each_at holder bytes) (λ ps. Ok (in_writing_order ps))

-- the same of a list whose length stands in front, and the bytes behind it
abbrev pub sized_list : Holder → ℕ × List ℕ → Result (List Prop × List ℕ) PropRefused
sized_list holder size =
    if nat_le size.0 (length size.1)
    then then_read (bare_list holder (take size.0 size.1)) (λ ps. Ok (ps, drop size.0 size.1))
    else Err Spelling

abbrev pub list_at : Holder → List ℕ → Result (List Prop × List ℕ) PropRefused
list_at holder bytes = then_read (or_spelling (var_at bytes)) (sized_list holder)

-- what is made of a list in writing order whose properties are spelled well and may stand there
abbrev pub checked : Holder → List Prop → Result (List Prop) PropRefused
checked holder ps =
    if has_repeated holder ps then Err Repeated
    else if list_any is_bad ps then Err BadValue
    else Ok ps

abbrev pub arranged : Holder → List Prop → Result (List Prop) PropRefused
arranged holder ps = checked holder (in_writing_order ps)

-- a list without its length in front, which fills the bytes
abbrev pub bare_props : Holder → List ℕ → Result (List Prop) PropRefused
bare_props holder bytes = then_read (each_at holder bytes) (arranged holder)

-- a length is that of all that follows it
abbrev pub if_whole : Holder → ℕ × List ℕ → Result (List Prop) PropRefused
if_whole holder size = if size.0 == length size.1 then bare_props holder size.1 else Err Spelling

-- a list with its length in front, which fills the bytes
abbrev pub whole_props : Holder → List ℕ → Result (List Prop) PropRefused
whole_props holder bytes = then_read (or_spelling (var_at bytes)) (if_whole holder)

-- the list whose length stands in front, and the bytes behind it; a length that passes the end is a fault in spelling
abbrev pub sized_props : Holder → ℕ × List ℕ → Result (List Prop × List ℕ) PropRefused
sized_props holder size =
    if nat_le size.0 (length size.1)
    then then_read (bare_props holder (take size.0 size.1)) (λ ps. Ok (ps, drop size.0 size.1))
    else Err Spelling

abbrev pub props_at : Holder → List ℕ → Result (List Prop × List ℕ) PropRefused
props_at holder bytes = then_read (or_spelling (var_at bytes)) (sized_props holder)

-- the properties one after another, and with their length in front (MQTT 2.2.2.1)
abbrev pub spelled_bare : List Prop → List ℕ
spelled_bare ps = flat_map spelled_prop ps

abbrev pub spelled_props : List Prop → List ℕ
spelled_props ps = spelled_var (length (spelled_bare ps)) ++ spelled_bare ps

-- what a call gave, seen by a view, is what reading gives; want of memory says nothing of the bytes
abbrev pub GivesAs : {X Y : Type 0} → (X → Y) → Result X PropRefused → Result Y PropRefused → Type 0
GivesAs view (Ok x) read = read ≡ Ok (view x)
GivesAs view (Err e) read = UnlessMemory e (read ≡ Err e)

-- a list as it is kept: each property has its type and range, and all stand in writing order
pub record AreProps (ps : List Prop) : Type 0 where
  pub fits : All IsProp ps
  pub ordered : in_writing_order ps ≡ ps

-- the number itself, where a variable byte integer has it (MQTT 1.5.5)
abbrev pub if_var : ℕ → Option ℕ
if_var n = if nat_le n 268435455 then Some n else None

-- a list that a packet of this kind or a will may have
pub record FitsIn (holder : Holder) (ps : List Prop) : Type 0 where
  pub fits : All (IsPropIn holder) ps
  pub ordered : in_writing_order ps ≡ ps
  pub single : has_repeated holder ps ≡ false
  pub good : list_any is_bad ps ≡ false

-- the bytes are properties, in any order, that may stand there, and the list is made of them
abbrev pub SpellsBare : Holder → List ℕ → List Prop → Type 0
SpellsBare holder bytes ps =
    (qs : List Prop) × (All (IsPropIn holder) qs × (bytes ≡ spelled_bare qs) × (arranged holder qs ≡ Ok ps))

-- the bytes are such bytes with their length in front, and a rest
abbrev pub SpellsSized : Holder → List ℕ → List Prop → List ℕ → Type 0
SpellsSized holder bytes ps rest =
    (bare : List ℕ) × ((bytes ≡ (spelled_var (length bare) ++ bare) ++ rest) × SpellsBare holder bare ps)

-- the bytes are such properties with their length in front, and a rest; in writing order they are the list
pub record TookList (holder : Holder) (bytes : List ℕ) (qs ps : List Prop) (rest : List ℕ) : Type 0 where
  pub parts : bytes ≡ spelled_props qs ++ rest
  pub list : IsArranged holder qs ps
  pub few : length (spelled_bare qs) ≤ 268435455
  pub behind : AreBytes rest
