-- Properties that were read are short enough to be written: in writing order they take as many bytes as they took.
use Rattle.std.proofs.Common.{◌≡◌, ℕ, ◌≤◌, Bool, true, false, cond, eqb, List, length, All, Result, Ok, Err, refl, ap, arith}
use Rattle.std.specs.Prelude.{IfOk}
use Rattle.std.specs.List.{list_any}
use Rattle.std.proofs.lemmas.Bool.{eqb-true}
use Rattle.wire_fields.specs.declared.cut.Cut.{Cut}
use Rattle.wire_fields.specs.Reading.{AreBytes, var_at}
use Rattle.wire_fields.specs.VarLaws.{var_takes}
use Rattle.mqtt_props.specs.declared.table.Holder.{Holder}
use Rattle.mqtt_props.specs.declared.prop.Prop.{Prop}
use Rattle.mqtt_props.specs.declared.refused.PropRefused.{PropRefused}
use Rattle.mqtt_props.specs.declared.refused.PropRefused.TheVariants.{Spelling, Repeated, BadValue}
use Rattle.mqtt_props.specs.Prop.{is_bad, IsProp}
use Rattle.mqtt_props.specs.Reading.{then_read, or_spelling}
use Rattle.mqtt_props.specs.Props.{in_writing_order, has_repeated, bare_props, if_whole, whole_props, spelled_bare, SpellsBare, GivesAs}

-- what the laws of properties say of a list that was read, and of writing order
abbrev pub WasSpelled : Type 0
WasSpelled = (holder : Holder) (bytes : List ℕ) (ps : List Prop) → AreBytes bytes → bare_props holder bytes ≡ Ok ps → SpellsBare holder bytes ps

abbrev pub KeepsSize : Type 0
KeepsSize = (ps : List Prop) → All IsProp ps → length (spelled_bare (in_writing_order ps)) ≡ length (spelled_bare ps)

-- ---- what a step gave

then_ok : {A B : Type 0} (r : Result A PropRefused) (f : A → Result B PropRefused) (y : B) → then_read r f ≡ Ok y → (x : A) × (r ≡ Ok x) × (f x ≡ Ok y)
then_ok (Ok x) f y e = (x, refl, e)
then_ok (Err d) f y e = absurd cc

or_ok : {A : Type 0} (r : Result A Cut) (x : A) → or_spelling r ≡ Ok x → r ≡ Ok x
or_ok (Ok y) x e = let same : y ≡ x = cc in ap Ok same
or_ok (Err d) x e = absurd cc

by_test : {A : Type 0} (b : Bool) (d : PropRefused) (r : Result A PropRefused) (y : A) → cond b r (Err d) ≡ Ok y → (b ≡ true) × (r ≡ Ok y)
by_test true d r y e = (refl, e)
by_test false d r y e = absurd cc

checked_ok : (a b : Bool) (qs ps : List Prop) → cond a (Err Repeated) (cond b (Err BadValue) (Ok qs)) ≡ Ok ps → qs ≡ ps
checked_ok true b qs ps e = absurd cc
checked_ok false true qs ps e = absurd cc
checked_ok false false qs ps e = cc

-- ---- a list that was read

bare_short : KeepsSize → (holder : Holder) (bytes : List ℕ) (ps : List Prop) → SpellsBare holder bytes ps → length (spelled_bare ps) ≤ length bytes
bare_short sizes holder bytes ps spells =
    let qs = spells.0 in
    let same : in_writing_order qs ≡ ps = checked_ok (has_repeated holder (in_writing_order qs)) (list_any is_bad (in_writing_order qs)) (in_writing_order qs) ps spells.1.2 in
    omega (arith, sizes qs (λ k d lt. (spells.1.0 k d lt).0), ap (λ (l : List Prop). length (spelled_bare l)) same, ap length spells.1.1)

whole_short : WasSpelled → KeepsSize → (holder : Holder) (bytes : List ℕ) (ps : List Prop) → AreBytes bytes → whole_props holder bytes ≡ Ok ps
    → length (spelled_bare ps) ≤ 268435455
whole_short spelled sizes holder bytes ps fits e =
    let head = then_ok (or_spelling (var_at bytes)) (if_whole holder) ps e in
    let rest = head.0.1 in
    let t = var_takes bytes head.0 fits (or_ok (var_at bytes) head.0 head.1) in
    let test = by_test (eqb head.0.0 (length rest)) Spelling (bare_props holder rest) ps head.2 in
    omega (arith, t.in_range, eqb-true head.0.0 (length rest) test.0, bare_short sizes holder rest ps (spelled holder rest ps t.behind test.1))

-- the same of what a call gave
pub read_is_short : WasSpelled → KeepsSize → (holder : Holder) (bytes : List ℕ) (result : Result (List Prop) PropRefused) → AreBytes bytes
    → GivesAs (λ (p : List Prop). p) result (whole_props holder bytes) → IfOk result (λ ps. length (spelled_bare ps) ≤ 268435455)
read_is_short spelled sizes holder bytes (Ok ps) fits e = whole_short spelled sizes holder bytes ps fits e
read_is_short spelled sizes holder bytes (Err d) fits e = tt
