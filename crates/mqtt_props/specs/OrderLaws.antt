-- A list that is sorted by identifier, without a change among equal ones, is in writing order.
use Rattle.std.proofs.Common.{◌≡◌, ℕ, suc, ◌<◌, ◌≤◌, Bool, true, false, cond, not, ◌&&◌, ◌||◌, eqb, List, [], ◌∷◌, ◌++◌, length, get_or, Some, None, refl, sym, ap, ◌∙◌, arith, inl, inr}
use Rattle.std.specs.List.{list_any, list_all, filter}
use Rattle.std.specs.List.Sorted.{ties, IsStableByKey, IsNonDecreasingBy}
use Rattle.std.specs.Ordering.{nat_cmp, is_lt}
use Rattle.std.specs.declared.cmp.Ordering.TheVariants.{Less, Equal, Greater}
use Rattle.std.specs.Prelude.{nat_lt}
use Rattle.std.proofs.lemmas.Bool.Decides.{nat_tests}
use Rattle.std.proofs.lemmas.Bool.{cases_Bool, eqb-true, eqb-false, ne_eqb, ltb-true, and_parts}
use Rattle.mqtt_props.specs.declared.table.ValueType.{ValueType}
use Rattle.mqtt_props.specs.declared.prop.Prop.{Prop}
use Rattle.mqtt_props.specs.declared.prop.Prop.TheVariants.{Byte, Two, Four, Var, Text, Bin, Pair}
use Rattle.mqtt_props.specs.Table.{Row, rows, type_number, value_type}
use Rattle.mqtt_props.specs.Prop.{id_of, IsProp}
use Rattle.mqtt_props.specs.Props.{gathered, identifiers, in_writing_order}

-- ---- an identifier with a type is one of the table

abbrev pub among : ℕ → List ℕ → Bool
among id ids = list_any (λ (k : ℕ). eqb k id) ids

none_by : (t b rest others : Bool) → (b || rest) ≡ false → (rest ≡ false → others ≡ false) → ((t && b) || others) ≡ false
none_by t true rest others none h = absurd cc
none_by true false rest others none h = h none
none_by false false rest others none h = h none

none_has : (test : Row → Bool) (rs : List Row) (id : ℕ) → list_any (λ (r : Row). eqb r.identifier id) rs ≡ false → list_any (λ (r : Row). test r && eqb r.identifier id) rs ≡ false
none_has test [] id none = refl
none_has test (r ∷ rs) id none =
    none_by (test r) (eqb r.identifier id) (list_any (λ (s : Row). eqb s.identifier id) rs) (list_any (λ (s : Row). test s && eqb s.identifier id) rs) none (none_has test rs id)

type_by : (a b c d e f g : Bool) (value : ValueType) (A B C D E F G : ValueType) → a ≡ false → b ≡ false → c ≡ false → d ≡ false → e ≡ false → f ≡ false → g ≡ false
    → cond a (Some A) (cond b (Some B) (cond c (Some C) (cond d (Some D) (cond e (Some E) (cond f (Some F) (cond g (Some G) None)))))) ≡ Some value → ⊥
type_by a b c d e f g value A B C D E F G pa pb pc pd pe pf pg is =
    let bad = rw (pa, pb, pc, pd, pe, pf, pg) at is in cc

no_type : (id : ℕ) (value : ValueType) → list_any (λ (r : Row). eqb r.identifier id) rows ≡ false → value_type id ≡ Some value → ⊥
no_type id value none is =
    let no = λ (t : ℕ). none_has (λ (r : Row). eqb (type_number r.value) t) rows id none in
    type_by _ _ _ _ _ _ _ value _ _ _ _ _ _ _ (no 1) (no 2) (no 3) (no 4) (no 5) (no 6) (no 7) is

of_the_table : (id : ℕ) (value : ValueType) → value_type id ≡ Some value → among id identifiers ≡ true
of_the_table id value is =
    elim (cases_Bool (among id identifiers)) [
      | inl known ↦ known
      | inr none ↦ absurd (no_type id value none is)
    ]

pub known : (p : Prop) → IsProp p → among (id_of p) identifiers ≡ true
known (Byte id value) h = of_the_table id _ h.0
known (Two id value) h = of_the_table id _ h.0
known (Four id value) h = of_the_table id _ h.0
known (Var value) h = refl
known (Text id text) h = of_the_table id _ h.0
known (Bin id bytes) h = of_the_table id _ h.0
known (Pair name value) h = refl

-- ---- sorted lists, by cases

abbrev pub AllAmong : List ℕ → List Prop → Type 0
AllAmong ids [] = Unit {0}
AllAmong ids (p ∷ ps) = (among (id_of p) ids ≡ true) × AllAmong ids ps

abbrev AtLeast : ℕ → List Prop → Type 0
AtLeast k [] = Unit {0}
AtLeast k (p ∷ ps) = (k ≤ id_of p) × AtLeast k ps

abbrev Rises : List Prop → Type 0
Rises [] = Unit {0}
Rises (p ∷ ps) = AtLeast (id_of p) ps × Rises ps

abbrev pub ascends : List ℕ → Bool
ascends [] = true
ascends (k ∷ ks) = list_all (λ (j : ℕ). nat_lt k j) ks && ascends ks

pub all_in_table : (ps : List Prop) → ((k : ℕ) (d : Prop) → k < length ps → IsProp (get_or ps k d)) → AllAmong identifiers ps
all_in_table [] h = tt
all_in_table (p ∷ ps) h = (known p (h 0 p (omega arith)), all_in_table ps (λ k d lt. h (suc k) d (omega (arith, lt))))

at_least : (n : ℕ) (ps : List Prop) → ((j : ℕ) (d : Prop) → j < length ps → n ≤ id_of (get_or ps j d)) → AtLeast n ps
at_least n [] h = tt
at_least n (p ∷ ps) h = (h 0 p (omega arith), at_least n ps (λ j d lt. h (suc j) d (omega (arith, lt))))

rises : (ps : List Prop) → IsNonDecreasingBy id_of ps → Rises ps
rises [] h = tt
rises (p ∷ ps) h = (
  at_least (id_of p) ps (λ j d lt. h 0 (suc j) d (omega arith) (omega (arith, lt))),
  rises ps (λ i j d le lt. h (suc i) (suc j) d (omega (arith, le)) (omega (arith, lt))),
)

-- what is among greater numbers is greater
above : (k id : ℕ) (ks : List ℕ) → list_all (λ (j : ℕ). nat_lt k j) ks ≡ true → among id ks ≡ true → k < id
above k id [] less is = absurd cc
above k id (j ∷ ks) less is =
    let both = and_parts (nat_lt k j) (list_all (λ (i : ℕ). nat_lt k i) ks) less in
    elim (cases_Bool (eqb j id)) [
      | inl here ↦ omega (arith, ltb-true k j both.0, eqb-true j id here)
      | inr other ↦ above k id ks both.1 (sym (ap (λ (b : Bool). b || among id ks) other) ∙ is)
    ]

-- what is greater than all of a list isn't in it
none_of : (k : ℕ) (ps : List Prop) (n : ℕ) → k < n → AtLeast n ps → filter (λ (p : Prop). eqb (id_of p) k) ps ≡ []
none_of k [] n lt h = refl
none_of k (p ∷ ps) n lt h =
    let differs : eqb (id_of p) k ≡ false = ne_eqb (id_of p) k (λ e. omega (arith, lt, h.0, e)) in
    ap (λ (b : Bool). cond b (p ∷ filter (λ (q : Prop). eqb (id_of q) k) ps) (filter (λ (q : Prop). eqb (id_of q) k) ps)) differs ∙ none_of k ps n lt h.1

gathered_none : (ks : List ℕ) → gathered ks [] ≡ []
gathered_none [] = refl
gathered_none (k ∷ ks) = gathered_none ks

-- the first is passed over where its identifier is below all
passed_over : (ks : List ℕ) (p : Prop) (ps : List Prop) → list_all (λ (j : ℕ). nat_lt (id_of p) j) ks ≡ true → gathered ks (p ∷ ps) ≡ gathered ks ps
passed_over [] p ps less = refl
passed_over (k ∷ ks) p ps less =
    let both = and_parts (nat_lt (id_of p) k) (list_all (λ (j : ℕ). nat_lt (id_of p) j) ks) less in
    let differs : eqb (id_of p) k ≡ false = ne_eqb (id_of p) k (λ e. omega (arith, ltb-true (id_of p) k both.0, e)) in
    let others : List Prop = filter (λ (q : Prop). eqb (id_of q) k) ps in
    ap (λ (b : Bool). cond b (p ∷ others) others ++ gathered ks (p ∷ ps)) differs
    ∙ ap (λ (l : List Prop). others ++ l) (passed_over ks p ps both.1)

rest_among : (k : ℕ) (ks : List ℕ) (ps : List Prop) (n : ℕ) → k < n → AtLeast n ps → AllAmong (k ∷ ks) ps → AllAmong ks ps
rest_among k ks [] n lt least h = tt
rest_among k ks (p ∷ ps) n lt least h =
    let differs : eqb k (id_of p) ≡ false = ne_eqb k (id_of p) (λ e. omega (arith, lt, least.0, e)) in
    (sym (ap (λ (b : Bool). b || among (id_of p) ks) differs) ∙ h.0, rest_among k ks ps n lt least.1 h.1)

with_one : (k : ℕ) (ks : List ℕ) → list_all (λ (j : ℕ). nat_lt k j) ks ≡ true → ((ps : List Prop) → Rises ps → AllAmong ks ps → gathered ks ps ≡ ps)
    → (ps : List Prop) → Rises ps → AllAmong (k ∷ ks) ps → gathered (k ∷ ks) ps ≡ ps
with_one k ks less below [] up in_it = gathered_none ks
with_one k ks less below (p ∷ ps) up in_it =
    let others : List Prop = filter (λ (q : Prop). eqb (id_of q) k) ps in
    elim (cases_Bool (eqb (id_of p) k)) [
      | inl here ↦
          let same : id_of p ≡ k = eqb-true (id_of p) k here in
          let less_here : list_all (λ (j : ℕ). nat_lt (id_of p) j) ks ≡ true = ap (λ (n : ℕ). list_all (λ (j : ℕ). nat_lt n j) ks) same ∙ less in
          ap (λ (b : Bool). cond b (p ∷ others) others ++ gathered ks (p ∷ ps)) here
          ∙ ap (λ (l : List Prop). p ∷ (others ++ l)) (passed_over ks p ps less_here)
          ∙ ap (λ (l : List Prop). p ∷ l) (with_one k ks less below ps up.1 in_it.1)
      | inr other ↦
          let differs : eqb k (id_of p) ≡ false = ne_eqb k (id_of p) (λ e. eqb-false (id_of p) k other (sym e)) in
          let there : among (id_of p) ks ≡ true = sym (ap (λ (b : Bool). b || among (id_of p) ks) differs) ∙ in_it.0 in
          let more : k < id_of p = above k (id_of p) ks less there in
          ap (λ (b : Bool). cond b (p ∷ others) others ++ gathered ks (p ∷ ps)) other
          ∙ ap (λ (l : List Prop). l ++ gathered ks (p ∷ ps)) (none_of k ps (id_of p) more up.0)
          ∙ below (p ∷ ps) up (there, rest_among k ks ps (id_of p) more up.0 in_it.1)
    ]

as_it_is : (ks : List ℕ) → ascends ks ≡ true → (ps : List Prop) → Rises ps → AllAmong ks ps → gathered ks ps ≡ ps
as_it_is [] asc [] up in_it = refl
as_it_is [] asc (p ∷ ps) up in_it = absurd (let bad = in_it.0 in cc)
as_it_is (k ∷ ks) asc ps up in_it =
    let both = and_parts (list_all (λ (j : ℕ). nat_lt k j) ks) (ascends ks) asc in
    with_one k ks both.0 (as_it_is ks both.1) ps up in_it

-- ---- sorted, and stable

pub sorted_is_in_order : (ps : List Prop) → IsNonDecreasingBy id_of ps → ((k : ℕ) (d : Prop) → k < length ps → IsProp (get_or ps k d)) → in_writing_order ps ≡ ps
unfolding in_writing_order
sorted_is_in_order ps up fits = as_it_is identifiers refl ps (rises ps up) (all_in_table ps fits)

lt_by : (l e : Bool) → is_lt (cond l Less (cond e Equal Greater)) ≡ l
lt_by true e = refl
lt_by false true = refl
lt_by false false = refl

lt_is : (a b : ℕ) → is_lt (nat_cmp a b) ≡ nat_lt a b
lt_is a b = lt_by (nat_lt a b) (eqb a b)

neither : (k n : ℕ) → (not (nat_lt k n) && not (nat_lt n k)) ≡ eqb n k
neither k n = grind (arith, nat_tests)

ties_are : (k : ℕ) (p : Prop) → ties (λ (x y : Prop). is_lt (nat_cmp (id_of x) (id_of y))) (Byte k 0) p ≡ eqb (id_of p) k
ties_are k p = (λ i. not (lt_is k (id_of p) i) && not (lt_is (id_of p) k i)) ∙ neither k (id_of p)

filter_by : (f g : Prop → Bool) → ((p : Prop) → f p ≡ g p) → (ps : List Prop) → filter f ps ≡ filter g ps
filter_by f g same [] = refl
filter_by f g same (p ∷ ps) = (λ i. cond (same p i) (p ∷ filter_by f g same ps i) (filter_by f g same ps i))

alike : (xs ys : List Prop) → IsStableByKey id_of nat_cmp xs ys → (ks : List ℕ) → gathered ks ys ≡ gathered ks xs
alike xs ys stable [] = refl
alike xs ys stable (k ∷ ks) =
    let tie : Prop → Bool = ties (λ (x y : Prop). is_lt (nat_cmp (id_of x) (id_of y))) (Byte k 0) in
    let here : Prop → Bool = λ p. eqb (id_of p) k in
    let one : filter here ys ≡ filter here xs = sym (filter_by tie here (ties_are k) ys) ∙ stable (Byte k 0) ∙ filter_by tie here (ties_are k) xs in
    (λ i. one i ++ alike xs ys stable ks i)

pub same_order : (xs ys : List Prop) → IsStableByKey id_of nat_cmp xs ys → in_writing_order ys ≡ in_writing_order xs
unfolding in_writing_order
same_order xs ys stable = alike xs ys stable identifiers
