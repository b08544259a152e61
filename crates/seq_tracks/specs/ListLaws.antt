-- Lists of numbers: which numbers they have, and when they ascend.
use Rattle.std.proofs.Common.{◌≡◌, ◌⊎◌, inl, inr, ℕ, zero, suc, ◌+◌, ◌-◌, ◌≤◌, ◌<◌, Bool, true, false, ◌&&◌, ◌||◌, if◌then◌else◌, ◌==◌, nat_le, nat_lt, List, [], ◌∷◌, ◌++◌, length, filter, true≢false, refl, sym, ap, ◌∙◌, arith}
use Rattle.std.proofs.lemmas.Bool.{cases_eq, cases_Bool, and_parts, ltb-true, leb-true}
use Rattle.std.proofs.lemmas.Bool.Decides.{nat_tests}
use Rattle.session_model.specs.Acting.{numbers_from}
use Rattle.session_model.specs.PlainSession.{has}
use Rattle.seq_tracks.specs.InOrder.{ascend}

-- ---- so many numbers from one on

pub length-from : (start count : ℕ) → length (numbers_from start count) ≡ count
length-from start zero = refl
length-from start (suc count) = ap suc (length-from (start + 1) count)

pub has-from : (start count n : ℕ) → has (numbers_from start count) n ≡ (nat_le start n && nat_lt n (start + count))
has-from start zero n = grind (arith, nat_tests)
has-from start (suc count) n = grind (arith, nat_tests, has-from (start + 1) count n)

pub from-append : (start a b : ℕ) → numbers_from start (a + b) ≡ numbers_from start a ++ numbers_from (start + a) b
from-append start zero b =
    let none : zero + b ≡ b = omega arith in let same : start ≡ start + zero = omega arith in ap (numbers_from start) none ∙ ap (λ s. numbers_from s b) same
from-append start (suc a) b =
    let one : suc a + b ≡ suc (a + b) = omega arith in
    let same : start + 1 + a ≡ start + suc a = omega arith in
    ap (numbers_from start) one
    ∙ ap (λ ns. start ∷ ns) (from-append (start + 1) a b)
    ∙ ap (λ s. start ∷ (numbers_from (start + 1) a ++ numbers_from s b)) same

pub from-push : (start count next : ℕ) → next ≡ start + count → numbers_from start count ++ next ∷ [] ≡ numbers_from start (count + 1)
from-push start count next goes_on = ap (λ (n : ℕ). numbers_from start count ++ n ∷ []) goes_on ∙ sym (from-append start count 1)

-- ---- a filter

pub has-filter : (test : ℕ → Bool) (xs : List ℕ) (n : ℕ) → has (filter test xs) n ≡ (has xs n && test n)
has-filter test [] n = refl
has-filter test (x ∷ xs) n = by (cases_eq x n) (test x) refl (has-filter test xs n)
  where
    by : (x ≡ n) ⊎ (x ≡ n → ⊥) → (b : Bool) → test x ≡ b → has (filter test xs) n ≡ (has xs n && test n) →
        has (if b then x ∷ filter test xs else filter test xs) n ≡ (((x == n) || has xs n) && test n)
    by (inl same) true is rest = let it : test n ≡ true = ap test (sym same) ∙ is in grind (arith, nat_tests)
    by (inl same) false is rest = let it : test n ≡ false = ap test (sym same) ∙ is in grind (arith, nat_tests)
    by (inr other) true is rest = grind (arith, nat_tests)
    by (inr other) false is rest = grind (arith, nat_tests)

-- two tests that agree on the numbers
pub filter-agree : (p q : ℕ → Bool) (start count : ℕ) → ((n : ℕ) → start ≤ n → n < start + count → p n ≡ q n) →
    filter p (numbers_from start count) ≡ filter q (numbers_from start count)
filter-agree p q start zero same = refl
filter-agree p q start (suc count) same = by (p start) (q start) (same start (omega arith) (omega arith)) (filter-agree p q (start + 1) count (λ n from to. same n (omega arith) (omega arith)))
  where
    by : (b d : Bool) → b ≡ d → filter p (numbers_from (start + 1) count) ≡ filter q (numbers_from (start + 1) count) →
        (if b then start ∷ filter p (numbers_from (start + 1) count) else filter p (numbers_from (start + 1) count))
        ≡ (if d then start ∷ filter q (numbers_from (start + 1) count) else filter q (numbers_from (start + 1) count))
    by true true is rest = ap (λ l. start ∷ l) rest
    by false false is rest = rest
    by true false is rest = absurd (true≢false is)
    by false true is rest = absurd (true≢false (sym is))

pub filter-none : (p : ℕ → Bool) (start count : ℕ) → ((n : ℕ) → start ≤ n → n < start + count → p n ≡ false) → filter p (numbers_from start count) ≡ []
filter-none p start zero none = refl
filter-none p start (suc count) none = by (p start) (none start (omega arith) (omega arith)) (filter-none p (start + 1) count (λ n from to. none n (omega arith) (omega arith)))
  where
    by : (b : Bool) → b ≡ false → filter p (numbers_from (start + 1) count) ≡ [] →
        (if b then start ∷ filter p (numbers_from (start + 1) count) else filter p (numbers_from (start + 1) count)) ≡ []
    by true is rest = absurd (true≢false is)
    by false is rest = rest

pub filter-all : (p : ℕ → Bool) (start count : ℕ) → ((n : ℕ) → start ≤ n → n < start + count → p n ≡ true) → filter p (numbers_from start count) ≡ numbers_from start count
filter-all p start zero all = refl
filter-all p start (suc count) all = by (p start) (all start (omega arith) (omega arith)) (filter-all p (start + 1) count (λ n from to. all n (omega arith) (omega arith)))
  where
    by : (b : Bool) → b ≡ true → filter p (numbers_from (start + 1) count) ≡ numbers_from (start + 1) count →
        (if b then start ∷ filter p (numbers_from (start + 1) count) else filter p (numbers_from (start + 1) count)) ≡ start ∷ numbers_from (start + 1) count
    by true is rest = ap (λ l. start ∷ l) rest
    by false is rest = absurd (true≢false (sym is))

-- ---- ascending numbers

-- the first of some that ascend, and the others
pub ascend_parts : (above last x : ℕ) (xs : List ℕ) → ascend above last (x ∷ xs) ≡ true → (above < x) × (x ≤ last) × (ascend x last xs ≡ true)
ascend_parts above last x xs up =
    let first = and_parts (nat_lt above x) (nat_le x last && ascend x last xs) up in
    let rest = and_parts (nat_le x last) (ascend x last xs) first.1 in
    (ltb-true above x first.0, leb-true x last rest.0, rest.1)

pub ascend_cons : (above last x : ℕ) (xs : List ℕ) → above < x → x ≤ last → ascend x last xs ≡ true → ascend above last (x ∷ xs) ≡ true
ascend_cons above last x xs higher within up = grind (arith, nat_tests)

pub ascend_lower : (lower above last : ℕ) (xs : List ℕ) → lower ≤ above → ascend above last xs ≡ true → ascend lower last xs ≡ true
ascend_lower lower above last [] low up = refl
ascend_lower lower above last (x ∷ xs) low up =
    let parts = ascend_parts above last x xs up in let higher = parts.0 in ascend_cons lower last x xs (omega arith) parts.1 parts.2

pub ascend_later : (above last later : ℕ) (xs : List ℕ) → last ≤ later → ascend above last xs ≡ true → ascend above later xs ≡ true
ascend_later above last later [] high up = refl
ascend_later above last later (x ∷ xs) high up =
    let parts = ascend_parts above last x xs up in
    let within = parts.1 in
    ascend_cons above later x xs parts.0 (omega arith) (ascend_later x last later xs high parts.2)

-- each lies between
pub ascend_between : (above last : ℕ) (xs : List ℕ) (n : ℕ) → ascend above last xs ≡ true → has xs n ≡ true → (above < n) × (n ≤ last)
ascend_between above last [] n up found = absurd (true≢false (sym found))
ascend_between above last (x ∷ xs) n up found =
    let parts = ascend_parts above last x xs up in by (cases_eq x n) found parts.0 parts.1 (ascend_between x last xs n parts.2)
  where
    by : (x ≡ n) ⊎ (x ≡ n → ⊥) → ((x == n) || has xs n) ≡ true → above < x → x ≤ last → (has xs n ≡ true → (x < n) × (n ≤ last)) → (above < n) × (n ≤ last)
    by (inl same) found higher within rest = (omega arith, omega arith)
    by (inr other) found higher within rest =
        let later : has xs n ≡ true = grind (arith, nat_tests) in let between = rest later in let low = between.0 in (omega arith, between.1)

pub ascend_not_below : (above last : ℕ) (xs : List ℕ) (n : ℕ) → ascend above last xs ≡ true → n ≤ above → has xs n ≡ false
ascend_not_below above last xs n up low = by (cases_Bool (has xs n))
  where
    by : (has xs n ≡ true) ⊎ (has xs n ≡ false) → has xs n ≡ false
    by (inl is) = let between = ascend_between above last xs n up is in let higher = between.0 in absurd (omega arith)
    by (inr is) = is

pub ascend_not_past : (above last : ℕ) (xs : List ℕ) (n : ℕ) → ascend above last xs ≡ true → last < n → has xs n ≡ false
ascend_not_past above last xs n up high = by (cases_Bool (has xs n))
  where
    by : (has xs n ≡ true) ⊎ (has xs n ≡ false) → has xs n ≡ false
    by (inl is) = let between = ascend_between above last xs n up is in let within = between.1 in absurd (omega arith)
    by (inr is) = is

-- so many numbers at most
pub ascend_short : (above last : ℕ) (xs : List ℕ) → ascend above last xs ≡ true → length xs ≤ last - above
ascend_short above last [] up = omega arith
ascend_short above last (x ∷ xs) up =
    let parts = ascend_parts above last x xs up in
    let higher = parts.0 in
    let within = parts.1 in
    let rest : length xs ≤ last - x = ascend_short x last xs parts.2 in
    omega arith

pub ascend_from : (above last start count : ℕ) → above < start → start + count ≤ last + 1 → ascend above last (numbers_from start count) ≡ true
ascend_from above last start zero higher within = refl
ascend_from above last start (suc count) higher within =
    ascend_cons above last start (numbers_from (start + 1) count) higher (omega arith) (ascend_from start last (start + 1) count (omega arith) (omega arith))

-- one list behind another
pub ascend-append : (above middle last : ℕ) (xs ys : List ℕ) → above ≤ middle → middle ≤ last → ascend above middle xs ≡ true → ascend middle last ys ≡ true → ascend above last (xs ++ ys) ≡ true
ascend-append above middle last [] ys low high up more = ascend_lower above middle last ys low more
ascend-append above middle last (x ∷ xs) ys low high up more =
    let parts = ascend_parts above middle x xs up in
    let within = parts.1 in
    ascend_cons above last x (xs ++ ys) parts.0 (omega arith) (ascend-append x middle last xs ys within high parts.2 more)

-- Numbers that ascend are those of their range that they have: so a list is told by the numbers that it has.
pub ascending_is : (above count : ℕ) (xs : List ℕ) → ascend above (above + count) xs ≡ true → xs ≡ filter (has xs) (numbers_from (above + 1) count)
ascending_is above zero [] up = refl
ascending_is above zero (x ∷ xs) up =
    let parts = ascend_parts above (above + zero) x xs up in let higher = parts.0 in let within = parts.1 in absurd (omega arith)
ascending_is above (suc count) [] up = sym (filter-none (has []) (above + 1) (suc count) (λ n from to. refl))
ascending_is above (suc count) (x ∷ xs) up =
    let parts = ascend_parts above (above + suc count) x xs up in
    let more : above + suc count ≡ above + 1 + count = omega arith in
    let behind : ascend x (above + 1 + count) xs ≡ true = ap (λ l. ascend x l xs) (sym more) ∙ parts.2 in
    by (cases_eq x (above + 1)) parts.0 parts.1 behind (ascending_is (above + 1) count xs) (ascending_is (above + 1) count (x ∷ xs))
  where
    by : (x ≡ above + 1) ⊎ (x ≡ above + 1 → ⊥) → above < x → x ≤ above + suc count → ascend x (above + 1 + count) xs ≡ true →
        (ascend (above + 1) (above + 1 + count) xs ≡ true → xs ≡ filter (has xs) (numbers_from (above + 1 + 1) count)) →
        (ascend (above + 1) (above + 1 + count) (x ∷ xs) ≡ true → x ∷ xs ≡ filter (has (x ∷ xs)) (numbers_from (above + 1 + 1) count)) →
        x ∷ xs ≡ filter (has (x ∷ xs)) (numbers_from (above + 1) (suc count))
    by (inl is) low within behind first later =
        let found : has (x ∷ xs) (above + 1) ≡ true = grind (arith, nat_tests) in
        let up : ascend (above + 1) (above + 1 + count) xs ≡ true = ap (λ a. ascend a (above + 1 + count) xs) (sym is) ∙ behind in
        let agree : (n : ℕ) → above + 1 + 1 ≤ n → n < above + 1 + 1 + count → has xs n ≡ has (x ∷ xs) n = λ n from to. grind (arith, nat_tests) in
        ap (λ k. k ∷ xs) is
        ∙ ap (λ l. (above + 1) ∷ l) (first up ∙ filter-agree (has xs) (has (x ∷ xs)) (above + 1 + 1) count agree)
        ∙ ap (λ b. if b then (above + 1) ∷ filter (has (x ∷ xs)) (numbers_from (above + 1 + 1) count) else filter (has (x ∷ xs)) (numbers_from (above + 1 + 1) count)) (sym found)
    by (inr other) low within behind first later =
        let higher : above + 1 < x = omega arith in
        let missing : has (x ∷ xs) (above + 1) ≡ false = ascend_not_below (above + 1) (above + 1 + count) (x ∷ xs) (above + 1) (ascend_cons (above + 1) (above + 1 + count) x xs higher (omega arith) behind) (omega arith) in
        later (ascend_cons (above + 1) (above + 1 + count) x xs higher (omega arith) behind)
        ∙ ap (λ b. if b then (above + 1) ∷ filter (has (x ∷ xs)) (numbers_from (above + 1 + 1) count) else filter (has (x ∷ xs)) (numbers_from (above + 1 + 1) count)) (sym missing)
