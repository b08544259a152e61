-- Writing order moves properties, and changes nothing else.
use Rattle.std.proofs.Common.{◌≡◌, ℕ, ◌<◌, Bool, true, false, cond, not, ◌||◌, eqb, List, [], ◌∷◌, ◌++◌, length, All, refl, sym, ap, subst, ◌∙◌, arith, inl, inr}
use Rattle.std.specs.Prelude.{nat_lt}
use Rattle.std.specs.List.{list_all, filter}
use Rattle.std.specs.List.Sorted.{IsPermutation}
use Rattle.std.proofs.lemmas.Bool.{cases_Bool, eqb-true, eqb-false, ne_eqb, ltb-true, and_parts}
use Rattle.std.proofs.lemmas.List.{append-nil}
use Rattle.std.proofs.lemmas.List.Concat.{length-flat_map}
use Rattle.std.proofs.lemmas.List.Elements.{All-nil, All-append, All-filter, filter-append}
use Rattle.std.proofs.lemmas.List.Sorted.{IsPermutation-refl, IsPermutation-trans, IsPermutation-append_right, IsPermutation-filter_both, sum_by-IsPermutation}
use Rattle.mqtt_props.specs.declared.table.Holder.{Holder}
use Rattle.mqtt_props.specs.declared.prop.Prop.{Prop}
use Rattle.mqtt_props.specs.Prop.{id_of, spelled_prop, IsProp, IsPropIn}
use Rattle.mqtt_props.specs.Props.{gathered, identifiers, in_writing_order, spelled_bare, AreProps, IsArranged}
use Rattle.mqtt_props.specs.OrderLaws.{among, ascends, AllAmong, all_in_table}

-- those of an identifier, and the others
abbrev here : ℕ → Prop → Bool
here k p = eqb (id_of p) k

abbrev other : ℕ → Prop → Bool
other k p = not (eqb (id_of p) k)

-- ---- it loses and adds nothing

without_by : (j k : ℕ) (p : Prop) (ps : List Prop) (b : Bool) → eqb (id_of p) k ≡ b → k < j → filter (here j) (filter (other k) ps) ≡ filter (here j) ps
    → filter (here j) (cond (not b) (p ∷ filter (other k) ps) (filter (other k) ps)) ≡ filter (here j) (p ∷ ps)
without_by j k p ps true is lt e =
    let differs : eqb (id_of p) j ≡ false = ne_eqb (id_of p) j (λ f. omega (arith, lt, f, eqb-true (id_of p) k is)) in
    e ∙ sym (ap (λ (b : Bool). cond b (p ∷ filter (here j) ps) (filter (here j) ps)) differs)
without_by j k p ps false is lt e = ap (λ (l : List Prop). cond (eqb (id_of p) j) (p ∷ l) l) e

without : (j k : ℕ) (ps : List Prop) → k < j → filter (here j) (filter (other k) ps) ≡ filter (here j) ps
without j k [] lt = refl
without j k (p ∷ ps) lt = without_by j k p ps (eqb (id_of p) k) refl lt (without j k ps lt)

gathered_without : (k : ℕ) (ks : List ℕ) (ps : List Prop) → list_all (λ (j : ℕ). nat_lt k j) ks ≡ true → gathered ks (filter (other k) ps) ≡ gathered ks ps
gathered_without k [] ps less = refl
gathered_without k (j ∷ ks) ps less =
    let both = and_parts (nat_lt k j) (list_all (λ (i : ℕ). nat_lt k i) ks) less in
    (λ i. without j k ps (ltb-true k j both.0) i ++ gathered_without k ks ps both.1 i)

among_by : (k : ℕ) (ks : List ℕ) (p : Prop) (rest : List Prop) (b : Bool) → eqb (id_of p) k ≡ b → among (id_of p) (k ∷ ks) ≡ true → AllAmong ks rest → AllAmong ks (cond (not b) (p ∷ rest) rest)
among_by k ks p rest true is one all = all
among_by k ks p rest false is one all =
    let differs : eqb k (id_of p) ≡ false = ne_eqb k (id_of p) (λ e. eqb-false (id_of p) k is (sym e)) in
    (sym (ap (λ (b : Bool). b || among (id_of p) ks) differs) ∙ one, all)

among_without : (k : ℕ) (ks : List ℕ) (ps : List Prop) → AllAmong (k ∷ ks) ps → AllAmong ks (filter (other k) ps)
among_without k ks [] h = tt
among_without k ks (p ∷ ps) h = among_by k ks p (filter (other k) ps) (eqb (id_of p) k) refl h.0 (among_without k ks ps h.1)

gathered_moves : (ks : List ℕ) → ascends ks ≡ true → (ps : List Prop) → AllAmong ks ps → IsPermutation ps (gathered ks ps)
gathered_moves [] asc [] in_it = IsPermutation-refl []
gathered_moves [] asc (p ∷ ps) in_it = absurd (let bad = in_it.0 in cc)
gathered_moves (k ∷ ks) asc ps in_it =
    let both = and_parts (list_all (λ (j : ℕ). nat_lt k j) ks) (ascends ks) asc in
    let front : List Prop = filter (here k) ps in
    let rest : List Prop = filter (other k) ps in
    let below : IsPermutation rest (gathered ks rest) = gathered_moves ks both.1 rest (among_without k ks ps in_it) in
    let others : IsPermutation rest (gathered ks ps) = subst (λ (l : List Prop). IsPermutation rest l) (gathered_without k ks ps both.0) below in
    IsPermutation-trans ps (front ++ rest) (front ++ gathered ks ps) (IsPermutation-filter_both (here k) (other k) (λ x. refl) ps) (IsPermutation-append_right front rest (gathered ks ps) others)

pub order_moves : (ps : List Prop) → All IsProp ps → IsPermutation ps (in_writing_order ps)
unfolding in_writing_order
order_moves ps h = gathered_moves identifiers refl ps (all_in_table ps h)

-- so it takes as many bytes
pub order_keeps_size : (ps : List Prop) → All IsProp ps → length (spelled_bare (in_writing_order ps)) ≡ length (spelled_bare ps)
order_keeps_size ps h =
    length-flat_map spelled_prop (in_writing_order ps)
    ∙ sum_by-IsPermutation (λ (p : Prop). length (spelled_prop p)) ps (in_writing_order ps) (order_moves ps h)
    ∙ sym (length-flat_map spelled_prop ps)

-- ---- what holds of each holds of each

gathered_keeps : (P : Prop → Type 0) (ks : List ℕ) (ps : List Prop) → All P ps → All P (gathered ks ps)
gathered_keeps P [] ps h = All-nil P
gathered_keeps P (k ∷ ks) ps h = All-append P (filter (here k) ps) (gathered ks ps) (All-filter (here k) P ps h) (gathered_keeps P ks ps h)

pub order_keeps : (P : Prop → Type 0) (ps : List Prop) → All P ps → All P (in_writing_order ps)
unfolding in_writing_order
order_keeps P ps h = gathered_keeps P identifiers ps h

-- ---- a second time it changes nothing

none_by : (j k : ℕ) (p : Prop) (rest : List Prop) (b : Bool) → eqb (id_of p) k ≡ b → (j ≡ k → ⊥) → filter (here j) rest ≡ [] → filter (here j) (cond b (p ∷ rest) rest) ≡ []
none_by j k p rest true is apart e =
    let differs : eqb (id_of p) j ≡ false = ne_eqb (id_of p) j (λ f. apart (sym f ∙ eqb-true (id_of p) k is)) in
    ap (λ (b : Bool). cond b (p ∷ filter (here j) rest) (filter (here j) rest)) differs ∙ e
none_by j k p rest false is apart e = e

none_of_two : (j k : ℕ) (ps : List Prop) → (j ≡ k → ⊥) → filter (here j) (filter (here k) ps) ≡ []
none_of_two j k [] apart = refl
none_of_two j k (p ∷ ps) apart = none_by j k p (filter (here k) ps) (eqb (id_of p) k) refl apart (none_of_two j k ps apart)

same_by : (k : ℕ) (p : Prop) (rest : List Prop) (b : Bool) → eqb (id_of p) k ≡ b → filter (here k) rest ≡ rest → filter (here k) (cond b (p ∷ rest) rest) ≡ cond b (p ∷ rest) rest
same_by k p rest true is e = (λ i. cond (is i) (p ∷ e i) (e i))
same_by k p rest false is e = e

same_of_two : (k : ℕ) (ps : List Prop) → filter (here k) (filter (here k) ps) ≡ filter (here k) ps
same_of_two k [] = refl
same_of_two k (p ∷ ps) = same_by k p (filter (here k) ps) (eqb (id_of p) k) refl (same_of_two k ps)

none_gathered : (k : ℕ) (ks : List ℕ) (ps : List Prop) → list_all (λ (j : ℕ). nat_lt k j) ks ≡ true → filter (here k) (gathered ks ps) ≡ []
none_gathered k [] ps less = refl
none_gathered k (j ∷ ks) ps less =
    let both = and_parts (nat_lt k j) (list_all (λ (i : ℕ). nat_lt k i) ks) less in
    let apart : k ≡ j → ⊥ = λ e. omega (arith, ltb-true k j both.0, e) in
    filter-append (here k) (filter (here j) ps) (gathered ks ps)
    ∙ (λ i. none_of_two k j ps apart i ++ none_gathered k ks ps both.1 i)

once_gathered : (k : ℕ) (ks : List ℕ) (ps : List Prop) → ascends ks ≡ true → among k ks ≡ true → filter (here k) (gathered ks ps) ≡ filter (here k) ps
once_gathered k [] ps asc in_it = absurd cc
once_gathered k (j ∷ ks) ps asc in_it =
    let both = and_parts (list_all (λ (i : ℕ). nat_lt j i) ks) (ascends ks) asc in
    let parts = filter-append (here k) (filter (here j) ps) (gathered ks ps) in
    elim (cases_Bool (eqb j k)) [
      | inl is ↦
          let same : j ≡ k = eqb-true j k is in
          let less : list_all (λ (i : ℕ). nat_lt k i) ks ≡ true = ap (λ (n : ℕ). list_all (λ (i : ℕ). nat_lt n i) ks) (sym same) ∙ both.0 in
          parts
          ∙ (λ i. filter (here k) (filter (here (same i)) ps) ++ none_gathered k ks ps less i)
          ∙ append-nil (filter (here k) (filter (here k) ps))
          ∙ same_of_two k ps
      | inr is ↦
          let apart : k ≡ j → ⊥ = λ e. eqb-false j k is (sym e) in
          let there : among k ks ≡ true = sym (ap (λ (b : Bool). b || among k ks) is) ∙ in_it in
          parts ∙ (λ i. none_of_two k j ps apart i ++ once_gathered k ks ps both.1 there i)
    ]

gathered_again : (all ks : List ℕ) (ps : List Prop) → ascends all ≡ true → list_all (λ (k : ℕ). among k all) ks ≡ true → gathered ks (gathered all ps) ≡ gathered ks ps
gathered_again all [] ps asc in_it = refl
gathered_again all (k ∷ ks) ps asc in_it =
    let both = and_parts (among k all) (list_all (λ (j : ℕ). among j all) ks) in_it in
    (λ i. once_gathered k all ps asc both.0 i ++ gathered_again all ks ps asc both.1 i)

pub order_again : (ps : List Prop) → in_writing_order (in_writing_order ps) ≡ in_writing_order ps
unfolding in_writing_order
order_again ps = gathered_again identifiers identifiers ps refl refl

pub order_is_kept : (ps : List Prop) → All IsProp ps → AreProps (in_writing_order ps)
order_is_kept ps h = record { fits = order_keeps IsProp ps h; ordered = order_again ps }

-- ---- lists that are arranged

pub written_is : (holder : Holder) (ps : List Prop) → All (IsPropIn holder) ps → in_writing_order ps ≡ ps → IsArranged holder ps ps
written_is holder ps fits ordered = record { fits = fits; ordered = ordered }

pub arranged_fits : (holder : Holder) (qs ps : List Prop) → IsArranged holder qs ps → All (IsPropIn holder) ps
arranged_fits holder qs ps h = subst (λ (l : List Prop). All (IsPropIn holder) l) h.ordered (order_keeps (IsPropIn holder) qs h.fits)

pub arranged_is_written : (holder : Holder) (qs ps : List Prop) → IsArranged holder qs ps → in_writing_order ps ≡ ps
arranged_is_written holder qs ps h = ap in_writing_order (sym h.ordered) ∙ order_again qs ∙ h.ordered
