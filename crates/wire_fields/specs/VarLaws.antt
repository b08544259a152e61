-- Laws of variable byte integers: what is read was spelled so, what is spelled is read again, and what more bytes change.
use Rattle.std.proofs.Common.{◌≡◌, ℕ, zero, suc, ◌+◌, ◌-◌, ◌*◌, ◌/◌, ◌%◌, ◌<◌, ◌≤◌, Bool, true, false, cond, eqb, List, [], ◌∷◌, ◌++◌, Result, Ok, Err, refl, sym, ap, subst, ◌∙◌, arith, inl, inr}
use Rattle.std.proofs.lemmas.Bool.{cases_lt, le-ltb, lt-ltb, ne_eqb, eqb-false}
use Rattle.wire_fields.specs.declared.cut.Cut.{Cut}
use Rattle.wire_fields.specs.declared.cut.Cut.TheVariants.{Short, Bad}
use Rattle.wire_fields.specs.Spelled.{spelled_within, spelled_var}
use Rattle.wire_fields.specs.Reading.{◌>>=◌, raised, var_within, var_at, AreBytes, GoesOn}
use Rattle.wire_fields.specs.Places.{are_bytes_rest, are_bytes_replicate, guard_ok, bind_ok, Took}

-- what so many bytes have room for: each number below this
abbrev pub room : ℕ → ℕ
room zero = 1
room (suc places) = 128 * room places

-- the two ways on, by the first byte
pub first_is_last : (places b : ℕ) (bytes : List ℕ) → b < 128 → var_within (suc places) (b ∷ bytes) ≡ Ok (b, bytes)
unfolding var_within
first_is_last places b bytes low = rw (lt-ltb b 128 low) refl

pub first_goes_on : (places b : ℕ) (bytes : List ℕ) → 128 ≤ b → var_within (suc places) (b ∷ bytes) ≡ (var_within places bytes >>= λ high. raised (b - 128) high)
unfolding var_within
first_goes_on places b bytes high = rw (le-ltb b 128 high) refl

pub no_place : (bytes : List ℕ) → var_within 0 bytes ≡ Err Bad
unfolding var_within
no_place bytes = refl

pub nothing_there : (places : ℕ) → var_within (suc places) [] ≡ Err Short
unfolding var_within
nothing_there places = refl

pub within_again : (places n : ℕ) (rest : List ℕ) → n < room (suc places) → var_within (suc places) (spelled_within places n ++ rest) ≡ Ok (n, rest)
within_again zero n rest lt = first_is_last 0 n rest (omega arith)
within_again (suc places) n rest lt =
    elim (cases_lt n 128) [
      | inl low ↦
          let one : spelled_within (suc places) n ≡ n ∷ [] = rw (lt-ltb n 128 low) refl in
          ap (λ (t : List ℕ). var_within (suc (suc places)) (t ++ rest)) one ∙ first_is_last (suc places) n rest low
      | inr high ↦
          let later : var_within (suc places) (spelled_within places (n / 128) ++ rest) ≡ Ok (n / 128, rest) = within_again places (n / 128) rest (omega arith) in
          let many : spelled_within (suc places) n ≡ (n % 128 + 128) ∷ spelled_within places (n / 128) = rw (le-ltb n 128 high) refl in
          let value : n % 128 + 128 - 128 + 128 * (n / 128) ≡ n = omega arith in
          let some : eqb (n / 128) 0 ≡ false = ne_eqb (n / 128) 0 (λ e. omega arith) in
          ap (λ (t : List ℕ). var_within (suc (suc places)) (t ++ rest)) many
          ∙ first_goes_on (suc places) (n % 128 + 128) (spelled_within places (n / 128) ++ rest) (omega arith)
          ∙ ap (λ (r : Result (ℕ × List ℕ) Cut). r >>= λ h. raised (n % 128 + 128 - 128) h) later
          ∙ ap (λ (b : Bool). cond b (Err Bad) (Ok (n % 128 + 128 - 128 + 128 * (n / 128), rest))) some
          ∙ ap (λ (v : ℕ). Ok (v, rest)) value
    ]

-- one byte more: b is the first, high the number behind it
one_more : (places b : ℕ) (bytes : List ℕ) (high : ℕ × List ℕ) → 128 ≤ b → b < 256 → (high.0 ≡ 0 → ⊥) → bytes ≡ spelled_within places high.0 ++ high.1 → high.0 < room (suc places)
    → let n = b - 128 + 128 * high.0 in (b ∷ bytes ≡ spelled_within (suc places) n ++ high.1) × (n < room (suc (suc places)))
one_more places b bytes high least most some e lt =
    let n : ℕ = b - 128 + 128 * high.0 in
    let first : n % 128 + 128 ≡ b = omega arith in
    let later : n / 128 ≡ high.0 = omega arith in
    let many : spelled_within (suc places) n ≡ b ∷ spelled_within places high.0 =
    rw (le-ltb n 128 (omega arith)) (ap (λ (k : ℕ). k ∷ spelled_within places (n / 128)) first ∙ ap (λ (k : ℕ). b ∷ spelled_within places k) later) in
    (ap (λ (t : List ℕ). b ∷ t) e ∙ ap (λ (t : List ℕ). t ++ high.1) (sym many), omega arith)

alone : (places b : ℕ) → b < 128 → spelled_within places b ≡ b ∷ []
alone zero b lt = refl
alone (suc places) b lt = rw (lt-ltb b 128 lt) refl

room_for_one : (places : ℕ) → 128 ≤ room (suc places)
room_for_one zero = omega arith
room_for_one (suc places) = let k : 128 ≤ room (suc places) = room_for_one places in omega arith

pub within_takes : (places : ℕ) (bytes : List ℕ) (x : ℕ × List ℕ) → AreBytes bytes → var_within (suc places) bytes ≡ Ok x → Took (x.0 < room (suc places)) bytes (spelled_within places x.0) x.1
within_takes places [] x fits e = absurd (let bad = sym (nothing_there places) ∙ e in cc)
within_takes zero (b ∷ bytes) x fits e = elim (cases_lt b 128) [
  | inl low ↦
      let is : (b, bytes) ≡ x = let k = sym (first_is_last 0 b bytes low) ∙ e in cc in
      subst (λ (y : ℕ × List ℕ). Took (y.0 < 128) (b ∷ bytes) (y.0 ∷ []) y.1) is (record { parts = refl; in_range = low; behind = are_bytes_rest b bytes fits })
  | inr high ↦
      let bad : (Err Bad >>= λ h. raised (b - 128) h) ≡ Ok x = ap (λ (r : Result (ℕ × List ℕ) Cut). r >>= λ h. raised (b - 128) h) (sym (no_place bytes)) ∙ sym (first_goes_on 0 b bytes high) ∙ e in
      absurd cc
]
within_takes (suc places) (b ∷ bytes) x fits e = elim (cases_lt b 128) [
  | inl low ↦
      let is : (b, bytes) ≡ x = let k = sym (first_is_last (suc places) b bytes low) ∙ e in cc in
      subst (λ (y : ℕ × List ℕ). Took (y.0 < room (suc (suc places))) (b ∷ bytes) (spelled_within (suc places) y.0) y.1) is (record {
        parts = ap (λ (t : List ℕ). t ++ bytes) (sym (alone (suc places) b low));
        in_range = omega (arith, room_for_one (suc places));
        behind = are_bytes_rest b bytes fits;
      })
  | inr high ↦
      let step = bind_ok (var_within (suc places) bytes) (λ h. raised (b - 128) h) x (sym (first_goes_on (suc places) b bytes high) ∙ e) in
      let g = guard_ok (eqb step.0.0 0) Bad (b - 128 + 128 * step.0.0, step.0.1) x step.2 in
      let later : Took (step.0.0 < room (suc places)) bytes (spelled_within places step.0.0) step.0.1 = within_takes places bytes step.0 (are_bytes_rest b bytes fits) step.1 in
      let whole = one_more places b bytes step.0 high (fits 0) (eqb-false step.0.0 0 g.0) later.parts later.in_range in
      subst (λ (y : ℕ × List ℕ). Took (y.0 < room (suc (suc places))) (b ∷ bytes) (spelled_within (suc places) y.0) y.1) g.1 (record { parts = whole.0; in_range = whole.1; behind = later.behind })
]

-- what the bytes behind the first gave, where the whole is cut short, refused or read
raised_short : (low : ℕ) (r : Result (ℕ × List ℕ) Cut) → (r >>= λ h. raised low h) ≡ Err Short → r ≡ Err Short
raised_short low (Err e) h = h
raised_short low (Ok x) h = absurd (of_test (eqb x.0 0) h)
  where
    of_test : (b : Bool) → cond {A = Result (ℕ × List ℕ) Cut} b (Err Bad) (Ok (low + 128 * x.0, x.1)) ≡ Err Short → ⊥
    of_test true e = cc
    of_test false e = cc

-- a byte 1 ends what is cut short
pub within_goes_on : (places : ℕ) (bytes : List ℕ) → var_within places bytes ≡ Err Short → (n : ℕ) × ((n ≡ 0 → ⊥) × (var_within places (bytes ++ 1 ∷ []) ≡ Ok (n, [])))
within_goes_on zero bytes e = absurd (let bad = sym (no_place bytes) ∙ e in cc)
within_goes_on (suc places) [] e = (1, (λ h. cc, first_is_last places 1 [] (omega arith)))
within_goes_on (suc places) (b ∷ bytes) e = elim (cases_lt b 128) [
  | inl low ↦ absurd (let bad = sym (first_is_last places b bytes low) ∙ e in cc)
  | inr high ↦
      let short = raised_short (b - 128) (var_within places bytes) (sym (first_goes_on places b bytes high) ∙ e) in
      let later : (n : ℕ) × ((n ≡ 0 → ⊥) × (var_within places (bytes ++ 1 ∷ []) ≡ Ok (n, []))) = within_goes_on places bytes short in (
        b - 128 + 128 * later.0,
        (
          λ h. later.1.0 (omega arith),
          first_goes_on places b (bytes ++ 1 ∷ []) high
              ∙ ap (λ (r : Result (ℕ × List ℕ) Cut). r >>= λ h. raised (b - 128) h) later.1.1
              ∙ ap (λ (t : Bool). cond t (Err Bad) (Ok (b - 128 + 128 * later.0, []))) (ne_eqb later.0 0 later.1.0),
        ),
      )
]

-- more behind what was read is left behind it
pub within_stays : (places : ℕ) (bytes more : List ℕ) (x : ℕ × List ℕ) → var_within places bytes ≡ Ok x → var_within places (bytes ++ more) ≡ Ok (x.0, x.1 ++ more)
within_stays zero bytes more x e = absurd (let bad = sym (no_place bytes) ∙ e in cc)
within_stays (suc places) [] more x e = absurd (let bad = sym (nothing_there places) ∙ e in cc)
within_stays (suc places) (b ∷ bytes) more x e = elim (cases_lt b 128) [
  | inl low ↦
      let is : (b, bytes) ≡ x = let k = sym (first_is_last places b bytes low) ∙ e in cc in
      first_is_last places b (bytes ++ more) low ∙ ap (λ (y : ℕ × List ℕ). Ok (y.0, y.1 ++ more)) is
  | inr high ↦
      let step = bind_ok (var_within places bytes) (λ h. raised (b - 128) h) x (sym (first_goes_on places b bytes high) ∙ e) in
      let g = guard_ok (eqb step.0.0 0) Bad (b - 128 + 128 * step.0.0, step.0.1) x step.2 in
      let later : var_within places (bytes ++ more) ≡ Ok (step.0.0, step.0.1 ++ more) = within_stays places bytes more step.0 step.1 in
      first_goes_on places b (bytes ++ more) high
      ∙ ap (λ (r : Result (ℕ × List ℕ) Cut). r >>= λ h. raised (b - 128) h) later
      ∙ ap (λ (t : Bool). cond t (Err Bad) (Ok (b - 128 + 128 * step.0.0, step.0.1 ++ more))) g.0
      ∙ ap (λ (y : ℕ × List ℕ). Ok (y.0, y.1 ++ more)) g.1
]

-- of what is refused: the bytes behind the first are, or they are 0
raised_refused : (low : ℕ) (before after : Result (ℕ × List ℕ) Cut) → (before >>= λ h. raised low h) ≡ Err Bad
    → (before ≡ Err Bad → after ≡ Err Bad) → ((x : ℕ × List ℕ) → before ≡ Ok x → (rest : List ℕ) × (after ≡ Ok (x.0, rest)))
    → (after >>= λ h. raised low h) ≡ Err Bad
raised_refused low (Err e) after h bad read = ap (λ (r : Result (ℕ × List ℕ) Cut). r >>= λ y. raised low y) (bad h)
raised_refused low (Ok x) after h bad read =
    let stays = read x refl in
    let nought : eqb x.0 0 ≡ true = of_test (eqb x.0 0) h in
    ap (λ (r : Result (ℕ × List ℕ) Cut). r >>= λ y. raised low y) stays.1
    ∙ ap (λ (t : Bool). cond t (Err Bad) (Ok (low + 128 * x.0, stays.0))) nought
  where
    of_test : (b : Bool) → cond {A = Result (ℕ × List ℕ) Cut} b (Err Bad) (Ok (low + 128 * x.0, x.1)) ≡ Err Bad → b ≡ true
    of_test true e = refl
    of_test false e = absurd cc

-- more bytes don't help
pub within_refused : (places : ℕ) (bytes more : List ℕ) → var_within places bytes ≡ Err Bad → var_within places (bytes ++ more) ≡ Err Bad
within_refused zero bytes more e = no_place (bytes ++ more)
within_refused (suc places) [] more e = absurd (let bad = sym (nothing_there places) ∙ e in cc)
within_refused (suc places) (b ∷ bytes) more e = elim (cases_lt b 128) [
  | inl low ↦ absurd (let bad = sym (first_is_last places b bytes low) ∙ e in cc)
  | inr high ↦
      let again : var_within places bytes ≡ Err Bad → var_within places (bytes ++ more) ≡ Err Bad = within_refused places bytes more in
      first_goes_on places b (bytes ++ more) high
      ∙ raised_refused (b - 128) (var_within places bytes) (var_within places (bytes ++ more)) (sym (first_goes_on places b bytes high) ∙ e)
      again (λ x h. (x.1 ++ more, within_stays places bytes more x h))
]

-- ---- by name

pub var_again : (n : ℕ) (rest : List ℕ) → n ≤ 268435455 → var_at (spelled_var n ++ rest) ≡ Ok (n, rest)
var_again n rest most = within_again 3 n rest (omega arith)

pub var_takes : (bytes : List ℕ) (x : ℕ × List ℕ) → AreBytes bytes → var_at bytes ≡ Ok x → Took (x.0 ≤ 268435455) bytes (spelled_var x.0) x.1
var_takes bytes x fits e =
    let took = within_takes 3 bytes x fits e in
    record { parts = took.parts; in_range = omega (arith, took.in_range); behind = took.behind }

pub var_goes_on : (bytes : List ℕ) → var_at bytes ≡ Err Short → GoesOn var_at bytes 0
var_goes_on bytes e =
    let one = within_goes_on 4 bytes e in
    (1 ∷ [], λ i. are_bytes_replicate 1 1 (omega arith) i, (one.0, one.1.1))

pub var_refused : (bytes more : List ℕ) → var_at bytes ≡ Err Bad → var_at (bytes ++ more) ≡ Err Bad
var_refused bytes more e = within_refused 4 bytes more e

-- more bytes behind a number are left behind it
pub var_stays : (bytes more : List ℕ) (x : ℕ × List ℕ) → var_at bytes ≡ Ok x → var_at (bytes ++ more) ≡ Ok (x.0, x.1 ++ more)
var_stays = within_stays 4
