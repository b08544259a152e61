-- Looking for a number among ascending ones.
use Rattle.std.proofs.Common.{◌≡◌, ◌≢◌, ◌⊎◌, inl, inr, ℕ, zero, suc, ◌+◌, ◌≤◌, ◌<◌, true, false, List, [], ◌∷◌, ◌++◌, length, take, drop, get_or, slice_get, Some, Result, Ok, Err, is_ok, refl, sym, ap, ◌∙◌, subst, ◌==◌, arith, add-one}
use Rattle.std.specs.List.Sorted.{IsStrictlyIncreasing, IsBinarySearchResult}
use Rattle.std.specs.Ordering.{nat_cmp}
use Rattle.std.specs.Result.{MatchResult}
use Rattle.std.proofs.lemmas.Bool.{cases_eq, cases_lt, eq-eqb}
use Rattle.std.proofs.lemmas.Bool.Decides.{nat_tests}
use Rattle.std.proofs.lemmas.List.{take_more}
use Rattle.std.proofs.lemmas.List.Elements.{All-from_get_or}
use Rattle.std.proofs.lemmas.List.Folds.{list_any_at, list_any_none}
use Rattle.std.proofs.lemmas.List.Kept.{AllPairs-from_increasing}
use Rattle.std.proofs.lemmas.List.Sorted.{searched}
use Rattle.std.proofs.lemmas.Option.{slice_get_within, get_or_from_slice_get}
use Rattle.session_model.specs.Acting.{numbers_from}
use Rattle.session_model.specs.PlainSession.{has}
use Rattle.seq_tracks.specs.InOrder.{ascend}
use Rattle.seq_tracks.specs.ListLaws.{ascend_parts, ascend_cons, from-push}

-- each is less than the next
increases : (above last : ℕ) (xs : List ℕ) → ascend above last xs ≡ true → (k : ℕ) → suc k < length xs → get_or xs k 0 < get_or xs (suc k) 0
increases above last [] up k less = absurd (omega arith)
increases above last (x ∷ []) up k less = absurd (omega arith)
increases above last (x ∷ y ∷ xs) up zero less =
    (ascend_parts x last y xs (ascend_parts above last x (y ∷ xs) up).2).0
increases above last (x ∷ y ∷ xs) up (suc k) less = increases x last (y ∷ xs) (ascend_parts above last x (y ∷ xs) up).2 k (omega arith)

pub increasing : (above last : ℕ) (xs : List ℕ) → ascend above last xs ≡ true → IsStrictlyIncreasing xs
increasing above last xs up k less = rw add-one (increases above last xs up k (omega arith))

never_falls : (xs : List ℕ) → IsStrictlyIncreasing xs → (i j : ℕ) → i ≤ j → j < length xs → get_or xs i 0 ≤ get_or xs j 0
never_falls xs up i j order within = by (cases_eq i j)
  where
    by : (i ≡ j) ⊎ (i ≡ j → ⊥) → get_or xs i 0 ≤ get_or xs j 0
    by (inl same) = let e : get_or xs i 0 ≡ get_or xs j 0 = ap (λ k. get_or xs k 0) same in omega arith
    by (inr other) = let less : get_or xs i 0 < get_or xs j 0 = AllPairs-from_increasing xs up i j 0 (omega arith) within in omega arith

-- what a binary search found
pub found : (xs : List ℕ) (n : ℕ) (r : Result ℕ ℕ) → IsBinarySearchResult (λ y. nat_cmp y n) xs r → IsStrictlyIncreasing xs →
    MatchResult r (λ i. (i < length xs) × (get_or xs i 0 ≡ n))
    (λ i. (i ≤ length xs) × ((k : ℕ) → k < i → get_or xs k 0 < n) × ((k : ℕ) → i ≤ k → k < length xs → n < get_or xs k 0))
found xs n r position up = searched xs n r position (never_falls xs up)

pub found_or_not : (xs : List ℕ) (n : ℕ) (r : Result ℕ ℕ) → IsBinarySearchResult (λ y. nat_cmp y n) xs r → IsStrictlyIncreasing xs → is_ok r ≡ has xs n
found_or_not xs n r position up = by r (found xs n r position up)
  where
    by : (r : Result ℕ ℕ) → MatchResult r (λ i. (i < length xs) × (get_or xs i 0 ≡ n))
        (λ i. (i ≤ length xs) × ((k : ℕ) → k < i → get_or xs k 0 < n) × ((k : ℕ) → i ≤ k → k < length xs → n < get_or xs k 0)) → is_ok r ≡ has xs n
    by (Ok i) there = sym (list_any_at (λ (d : ℕ). d == n) xs i 0 there.0 (eq-eqb (get_or xs i 0) n there.1))
    by (Err i) not_there = sym (list_any_none (λ (d : ℕ). d == n) xs (All-from_get_or (λ (d : ℕ). (d == n) ≡ false) xs 0 (λ k within. at k within)))
      where
        at : (k : ℕ) → k < length xs → (get_or xs k 0 == n) ≡ false
        at k within = other (cases_lt k i)
          where
            other : (k < i) ⊎ (i ≤ k) → (get_or xs k 0 == n) ≡ false
            other (inl before) = let less : get_or xs k 0 < n = not_there.1 k before in grind (arith, nat_tests)
            other (inr behind) = let greater : n < get_or xs k 0 = not_there.2 k behind within in grind (arith, nat_tests)

-- where a number belongs
abbrev pub IsPlace : List ℕ → ℕ → ℕ → Type 0
IsPlace xs n i = ((k : ℕ) → k < i → get_or xs k 0 < n) × ((k : ℕ) → i ≤ k → k < length xs → n ≤ get_or xs k 0)

pub place_found : (xs : List ℕ) (n i : ℕ) (r : Result ℕ ℕ) → IsBinarySearchResult (λ y. nat_cmp y n) xs r → IsStrictlyIncreasing xs → r ≡ Ok i → IsPlace xs n i
place_found xs n i r position up is =
    let there : (i < length xs) × (get_or xs i 0 ≡ n) =
    subst (λ r. MatchResult r (λ i. (i < length xs) × (get_or xs i 0 ≡ n))
    (λ i. (i ≤ length xs) × ((k : ℕ) → k < i → get_or xs k 0 < n) × ((k : ℕ) → i ≤ k → k < length xs → n < get_or xs k 0))) is (found xs n r position up) in
    let within = there.0 in
    let same = there.1 in (
      (λ k before. let less : get_or xs k 0 < get_or xs i 0 = AllPairs-from_increasing xs up k i 0 before within in omega arith),
      (λ k behind inside. let no_less : get_or xs i 0 ≤ get_or xs k 0 = never_falls xs up i k behind inside in omega arith),
    )

pub place_not_found : (xs : List ℕ) (n i : ℕ) (r : Result ℕ ℕ) → IsBinarySearchResult (λ y. nat_cmp y n) xs r → IsStrictlyIncreasing xs → r ≡ Err i → IsPlace xs n i
place_not_found xs n i r position up is =
    let not_there : (i ≤ length xs) × ((k : ℕ) → k < i → get_or xs k 0 < n) × ((k : ℕ) → i ≤ k → k < length xs → n < get_or xs k 0) =
    subst (λ r. MatchResult r (λ i. (i < length xs) × (get_or xs i 0 ≡ n))
    (λ i. (i ≤ length xs) × ((k : ℕ) → k < i → get_or xs k 0 < n) × ((k : ℕ) → i ≤ k → k < length xs → n < get_or xs k 0))) is (found xs n r position up) in
    (not_there.1, (λ k behind inside. let greater : n < get_or xs k 0 = not_there.2 k behind inside in omega arith))

-- ---- a run at the front

pub run_more : (number : ℕ) (xs : List ℕ) (i next : ℕ) → i < length xs → get_or xs i 0 ≡ next → next ≡ number + 1 + i →
    take i xs ≡ numbers_from (number + 1) i → take (i + 1) xs ≡ numbers_from (number + 1) (i + 1)
run_more number xs i next within here goes_on before =
    take_more xs i 0 within ∙ ap (λ l. l ++ get_or xs i 0 ∷ []) before ∙ from-push (number + 1) i (get_or xs i 0) (here ∙ goes_on)

pub run_ends : (number : ℕ) (xs : List ℕ) (i : ℕ) → (i < length xs → get_or xs i 0 ≢ number + 1 + i) → slice_get xs i ≢ Some (number + 1 + i)
run_ends number xs i other is = other (slice_get_within xs i (number + 1 + i) is) (get_or_from_slice_get xs i (number + 1 + i) 0 is)

-- what stands behind the run ascends behind the number at which it ends
pub rest_ascends : (number last run : ℕ) (xs : List ℕ) → ascend number last xs ≡ true → take run xs ≡ numbers_from (number + 1) run →
    slice_get xs run ≢ Some (number + 1 + run) → ascend (number + run + 1) last (drop run xs) ≡ true
rest_ascends number last zero [] up goes_on ends = refl
rest_ascends number last zero (x ∷ xs) up goes_on ends =
    let parts = ascend_parts number last x xs up in
    let higher = parts.0 in
    let other : x ≢ number + 1 = λ is. ends (ap Some (is ∙ omega arith)) in
    ascend_cons (number + zero + 1) last x xs (omega arith) parts.1 parts.2
rest_ascends number last (suc run) [] up goes_on ends = cc
rest_ascends number last (suc run) (x ∷ xs) up goes_on ends =
    let parts = ascend_parts number last x xs up in
    let here : x ≡ number + 1 = cc in
    let behind : take run xs ≡ numbers_from (number + 1 + 1) run = cc in
    let from : ascend (number + 1) last xs ≡ true = ap (λ a. ascend a last xs) (sym here) ∙ parts.2 in
    let far : number + 1 + 1 + run ≡ number + 1 + suc run = omega arith in
    let to : number + 1 + run + 1 ≡ number + suc run + 1 = omega arith in
    ap (λ a. ascend a last (drop run xs)) (sym to) ∙ rest_ascends (number + 1) last run xs from behind (λ is. ends (is ∙ ap Some far))
