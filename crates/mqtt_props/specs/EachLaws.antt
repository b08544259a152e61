-- Reading a list, one property after another.
use Rattle.std.proofs.Common.{◌≡◌, ℕ, zero, suc, ◌-◌, ◌<◌, ◌≤◌, List, [], ◌∷◌, ◌++◌, length, drop, Result, Ok, Err, refl, sym, ap, ◌∙◌, append_assoc, arith}
use Rattle.std.proofs.lemmas.List.{length-drop, length-append, drop_all, append-nil}
use Rattle.mqtt_props.specs.declared.table.Holder.{Holder}
use Rattle.mqtt_props.specs.declared.refused.PropRefused.{PropRefused}
use Rattle.mqtt_props.specs.declared.refused.PropRefused.TheVariants.{Unknown, Misplaced, Spelling, Repeated, BadValue, Memory}
use Rattle.mqtt_props.specs.declared.prop.Prop.{Prop}
use Rattle.mqtt_props.specs.Reading.{then_read, prop_at, UnlessMemory}
use Rattle.mqtt_props.specs.Props.{in_front, each_within, each_at}

-- what was read, and what is read behind it
abbrev pub joined : List Prop → Result (List Prop) PropRefused → Result (List Prop) PropRefused
joined ps (Ok qs) = Ok (ps ++ qs)
joined ps (Err e) = Err e

pub joined_in_front : (ps : List Prop) (p : Prop) (r : Result (List Prop) PropRefused) → joined ps (in_front p r) ≡ joined (ps ++ p ∷ []) r
joined_in_front ps p (Ok qs) = ap Ok (sym (append_assoc ps (p ∷ []) qs))
joined_in_front ps p (Err e) = refl

pub none_joined : (r : Result (List Prop) PropRefused) → joined [] r ≡ r
none_joined (Ok qs) = refl
none_joined (Err e) = refl

pub nothing_left : (n : ℕ) (holder : Holder) → each_within n holder [] ≡ Ok []
unfolding each_within
nothing_left zero holder = refl
nothing_left (suc n) holder = refl

pub each_step : (n : ℕ) (holder : Holder) (bytes : List ℕ) → 0 < length bytes → each_within (suc n) holder bytes ≡ then_read (prop_at holder bytes) (λ p. in_front p.0 (each_within n holder p.1))
unfolding each_within
each_step n holder [] some = absurd (omega (arith, some))
each_step n holder (b ∷ bytes) some = refl

-- one more property
pub one_more : (holder : Holder) (bytes : List ℕ) (ps : List Prop) (p : Prop) (at next : ℕ) → length ps ≤ at → at < length bytes
    → joined ps (each_within (length bytes - length ps) holder (drop at bytes)) ≡ each_at holder bytes → prop_at holder (drop at bytes) ≡ Ok (p, drop next bytes)
    → joined (ps ++ p ∷ []) (each_within (length bytes - length (ps ++ p ∷ [])) holder (drop next bytes)) ≡ each_at holder bytes
one_more holder bytes ps p at next few more whole found =
    let fuel : length bytes - length ps ≡ suc (length bytes - length (ps ++ p ∷ [])) = omega (arith, length-append ps (p ∷ [])) in
    let some : 0 < length (drop at bytes) = omega (arith, length-drop at bytes) in
    let n : ℕ = length bytes - length (ps ++ p ∷ []) in
    let step : each_within (length bytes - length ps) holder (drop at bytes) ≡ in_front p (each_within n holder (drop next bytes)) =
    ap (λ (m : ℕ). each_within m holder (drop at bytes)) fuel
    ∙ each_step n holder (drop at bytes) some
    ∙ ap (λ (r : Result (Prop × List ℕ) PropRefused). then_read r (λ q. in_front q.0 (each_within n holder q.1))) found in
    sym (joined_in_front ps p (each_within n holder (drop next bytes))) ∙ sym (ap (joined ps) step) ∙ whole

-- a property that is refused
pub one_refused : (holder : Holder) (bytes : List ℕ) (ps : List Prop) (e : PropRefused) (at : ℕ) → length ps ≤ at → at < length bytes
    → joined ps (each_within (length bytes - length ps) holder (drop at bytes)) ≡ each_at holder bytes → prop_at holder (drop at bytes) ≡ Err e
    → each_at holder bytes ≡ Err e
one_refused holder bytes ps e at few more whole found =
    let n : ℕ = length bytes - length ps - 1 in
    let fuel : length bytes - length ps ≡ suc n = omega arith in
    let some : 0 < length (drop at bytes) = omega (arith, length-drop at bytes) in
    let step : each_within (length bytes - length ps) holder (drop at bytes) ≡ Err e =
    ap (λ (m : ℕ). each_within m holder (drop at bytes)) fuel
    ∙ each_step n holder (drop at bytes) some
    ∙ ap (λ (r : Result (Prop × List ℕ) PropRefused). then_read r (λ q. in_front q.0 (each_within n holder q.1))) found in
    sym whole ∙ ap (joined ps) step

-- the end
pub at_the_end : (holder : Holder) (bytes : List ℕ) (ps : List Prop) (at : ℕ) → length bytes ≤ at
    → joined ps (each_within (length bytes - length ps) holder (drop at bytes)) ≡ each_at holder bytes → each_at holder bytes ≡ Ok ps
at_the_end holder bytes ps at end whole =
    let none : drop at bytes ≡ [] = drop_all at bytes end in
    sym whole
    ∙ ap (λ (l : List ℕ). joined ps (each_within (length bytes - length ps) holder l)) none
    ∙ ap (joined ps) (nothing_left (length bytes - length ps) holder)
    ∙ ap Ok (append-nil ps)

pub unless_map : (e : PropRefused) (P Q : Type 0) → (P → Q) → UnlessMemory e P → UnlessMemory e Q
unless_map Unknown P Q f h = f h
unless_map Misplaced P Q f h = f h
unless_map Spelling P Q f h = f h
unless_map Repeated P Q f h = f h
unless_map BadValue P Q f h = f h
unless_map Memory P Q f h = tt
