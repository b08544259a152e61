-- The greatest number up to which all are done.
use Rattle.std.proofs.Common.{◌≡◌, ◌⊎◌, inl, inr, ℕ, zero, suc, ◌+◌, ◌≤◌, ◌<◌, Bool, true, false, if◌then◌else◌, ◌==◌}
use Rattle.std.proofs.Common.{List, [], ◌∷◌, length, true≢false, refl, sym, ap, ◌∙◌, arith}
use Rattle.std.specs.List.{list_any}
use Rattle.std.proofs.lemmas.Bool.{cases_eq, cases_Bool, cases_lt, eqb-true, or_cases, or_left, or_right}
use Rattle.std.proofs.lemmas.Bool.{false_from_ne_true}
use Rattle.session_model.specs.PlainSession.{PlainSession, is_done, done_from, complete_of}
use Rattle.session_model.specs.PlainSession.{has}

-- ---- from a number on

all_done : (done : List ℕ) (start more n : ℕ) → start ≤ n → n < start + done_from done start more → has done n ≡ true
all_done done start zero n from to = absurd (omega arith)
all_done done start (suc more) n from to = by (has done start) refl to (all_done done (start + 1) more n)
  where
    by : (b : Bool) → has done start ≡ b → n < start + (if b then 1 + done_from done (start + 1) more else 0) →
        (start + 1 ≤ n → n < start + 1 + done_from done (start + 1) more → has done n ≡ true) → has done n ≡ true
    by false e to rest = absurd (omega arith)
    by true e to rest = at (cases_eq start n)
      where
        at : (start ≡ n) ⊎ (start ≡ n → ⊥) → has done n ≡ true
        at (inl same) = ap (has done) (sym same) ∙ e
        at (inr other) = rest (omega arith) (omega arith)

no_more : (done : List ℕ) (start more : ℕ) → done_from done start more ≤ more
no_more done start zero = omega arith
no_more done start (suc more) = by (has done start) (no_more done (start + 1) more)
  where
    by : (b : Bool) → done_from done (start + 1) more ≤ more →
        (if b then 1 + done_from done (start + 1) more else 0) ≤ suc more
    by false rest = omega arith
    by true rest = omega arith

-- it ends before a number that isn't done
ends_before : (done : List ℕ) (start more : ℕ) → done_from done start more < more →
    has done (start + done_from done start more) ≡ false
ends_before done start zero less = absurd (omega arith)
ends_before done start (suc more) less = by (has done start) refl less (ends_before done (start + 1) more)
  where
    by : (b : Bool) → has done start ≡ b → (if b then 1 + done_from done (start + 1) more else 0) < suc more →
        (done_from done (start + 1) more < more → has done (start + 1 + done_from done (start + 1) more) ≡ false) →
        has done (start + (if b then 1 + done_from done (start + 1) more else 0)) ≡ false
    by false e less rest = let same : start + 0 ≡ start = omega arith in ap (has done) same ∙ e
    by true e less rest =
        let same : start + (1 + done_from done (start + 1) more) ≡ start + 1 + done_from done (start + 1) more =
        omega arith in
        ap (has done) same ∙ rest (omega arith)

-- ---- a list that has all numbers up to one has so many

-- a list without one of its numbers
record Without (number : ℕ) (xs : List ℕ) : Type 0 where
  rest : List ℕ
  shorter : length xs ≡ suc (length rest)
  others : (i : ℕ) → (number ≡ i → ⊥) → has xs i ≡ true → has rest i ≡ true

without : (number : ℕ) (xs : List ℕ) → has xs number ≡ true → Without number xs
without number [] there = absurd (true≢false (sym there))
without number (x ∷ xs) there = by (cases_Bool (x == number)) (or_cases (x == number) (has xs number) there)
    (without number xs)
  where
    here : (x == number) ≡ true → Without number (x ∷ xs)
    here e =
        record { rest = xs; shorter = refl; others = λ i other found. one i other (or_cases (x == i) (has xs i) found) }
      where
        one : (i : ℕ) → (number ≡ i → ⊥) → ((x == i) ≡ true) ⊎ (has xs i ≡ true) → has xs i ≡ true
        one i other (inl is) = absurd (other (sym (eqb-true x number e) ∙ eqb-true x i is))
        one i other (inr later) = later

    later_on : Without number xs → Without number (x ∷ xs)
    later_on w =
        record {
          rest = x ∷ w.rest;
          shorter = ap suc w.shorter;
          others =
              λ i other found. one i other (or_cases (x == i) (has xs i) found);
        }
      where
        one : (i : ℕ) → (number ≡ i → ⊥) → ((x == i) ≡ true) ⊎ (has xs i ≡ true) → has (x ∷ w.rest) i ≡ true
        one i other (inl is) = or_left (x == i) (has w.rest i) is
        one i other (inr later) = or_right (x == i) (has w.rest i) (w.others i other later)

    by : ((x == number) ≡ true) ⊎ ((x == number) ≡ false) → ((x == number) ≡ true) ⊎ (has xs number ≡ true) →
        (has xs number ≡ true → Without number xs) → Without number (x ∷ xs)
    by (inl is) found rest = here is
    by (inr not_so) (inl is) rest = here is
    by (inr not_so) (inr later) rest = later_on (rest later)

pub at_least : (n : ℕ) (xs : List ℕ) → ((i : ℕ) → 1 ≤ i → i ≤ n → has xs i ≡ true) → n ≤ length xs
at_least zero xs all = omega arith
at_least (suc n) xs all =
    let w = without (suc n) xs (all (suc n) (omega arith) (omega arith)) in
    let fewer : n ≤ length w.rest = at_least n w.rest
    (λ i from to. w.others i (λ (e : suc n ≡ i). omega arith) (all i from (omega arith))) in
    let shorter = w.shorter in
    omega arith

-- ---- of a session

pub complete_is_done : (m : PlainSession) (n : ℕ) → 1 ≤ n → n ≤ complete_of m → is_done m n ≡ true
complete_is_done m n from to = all_done m.done 1 (length m.done) n from (omega arith)

pub next_is_not : (m : PlainSession) → is_done m (complete_of m + 1) ≡ false
next_is_not m = by (cases_lt (complete_of m) (length m.done))
  where
    by : (complete_of m < length m.done) ⊎ (length m.done ≤ complete_of m) → is_done m (complete_of m + 1) ≡ false
    by (inl less) =
        let same : complete_of m + 1 ≡ 1 + complete_of m = omega arith in
        ap (has m.done) same ∙ ends_before m.done 1 (length m.done) less
    by (inr all) = false_from_ne_true (is_done m (complete_of m + 1)) (λ is. by_number is)
      where
        at : is_done m (complete_of m + 1) ≡ true → (i : ℕ) → 1 ≤ i → i ≤ complete_of m + 1 → (i ≡ complete_of m + 1)
            ⊎ (i ≡ complete_of m + 1 → ⊥) → has m.done i ≡ true
        at is i from to (inl last) = ap (has m.done) last ∙ is
        at is i from to (inr other) = complete_is_done m i from (omega arith)

        by_number : is_done m (complete_of m + 1) ≡ true → ⊥
        by_number is =
            let many : complete_of m + 1 ≤ length m.done =
            at_least (complete_of m + 1) m.done (λ i from to. at is i from to (cases_eq i (complete_of m + 1))) in
            omega arith
