-- What is left of those that a test finds, where others are taken away.
use Rattle.std.proofs.Common.{◌≡◌, ℕ, ◌+◌, nat_lt, Bool, true, false, not, ◌||◌, if◌then◌else◌, List, [], ◌∷◌, length, filter, refl, sym, ap, subst, ◌∙◌, lt-ltb, arith}
use Rattle.std.proofs.lemmas.Bool.Decides.{nat_tests}
use Rattle.std.specs.List.{IsDistinct, AllByRecursion, list_any}
use Rattle.std.proofs.lemmas.Map.Keys.{IsDistinct-head, IsDistinct-tail, IsDistinct-cons}
use Rattle.shard_model.specs.ShardList.{Awaited}
use Rattle.shard_model.specs.Storing.{same_triple}
use Rattle.shard_index.specs.Triples.{same_triple_is, same_triple_itself}

-- the elements that don't pass
abbrev pub without : {A : Type 0} → (A → Bool) → List A → List A
without g xs = filter (λ x. not (g x)) xs

-- all that the first test finds are taken away
pub none_left : {A : Type 0} (f g : A → Bool) → ((x : A) → f x ≡ true → g x ≡ true) → (xs : List A) → filter f (without g xs) ≡ []
none_left f g h [] = refl
none_left {A = A} f g h (x ∷ xs) = by (f x) (g x) refl refl (none_left f g h xs)
  where
    by : (a b : Bool) → f x ≡ a → g x ≡ b → filter f (without g xs) ≡ [] → filter f (if not b then x ∷ without g xs else without g xs) ≡ []
    by a true found gone rest = rest
    by true false found gone rest = absurd (let both : true ≡ false = sym (h x found) ∙ gone in cc)
    by false false found gone rest = ap (λ c. if c then x ∷ filter f (without g xs) else filter f (without g xs)) found ∙ rest

-- none of them is
pub all_left : {A : Type 0} (f g : A → Bool) → ((x : A) → f x ≡ true → g x ≡ false) → (xs : List A) → filter f (without g xs) ≡ filter f xs
all_left f g h [] = refl
all_left f g h (x ∷ xs) = by (f x) (g x) refl refl (all_left f g h xs)
  where
    by : (a b : Bool) → f x ≡ a → g x ≡ b → filter f (without g xs) ≡ filter f xs →
        filter f (if not b then x ∷ without g xs else without g xs) ≡ (if a then x ∷ filter f xs else filter f xs)
    by true true found gone rest = absurd (let both : true ≡ false = sym gone ∙ h x found in cc)
    by false true found gone rest = rest
    by a false found gone rest =
        ap (λ c. if c then x ∷ filter f (without g xs) else filter f (without g xs)) found ∙ ap (λ l. if a then x ∷ l else l) rest

-- a test finds some where it passes at least one
pub some_pass : {A : Type 0} (f : A → Bool) (xs : List A) → list_any f xs ≡ nat_lt 0 (length (filter f xs))
some_pass f [] = refl
some_pass f (x ∷ xs) = by (f x) (some_pass f xs)
  where
    by : (a : Bool) → list_any f xs ≡ nat_lt 0 (length (filter f xs)) → (a || list_any f xs) ≡ nat_lt 0 (length (if a then x ∷ filter f xs else filter f xs))
    by true rest = sym (lt-ltb 0 (length (x ∷ filter f xs)) (omega arith))
    by false rest = rest

-- what holds of each holds of those that are left
others_left : {A : Type 0} (P : A → Type 0) (p : A → Bool) (xs : List A) → AllByRecursion P xs → AllByRecursion P (filter p xs)
others_left P p [] all = tt
others_left P p (x ∷ xs) all = by (p x) (others_left P p xs all.1)
  where
    by : (b : Bool) → AllByRecursion P (filter p xs) → AllByRecursion P (if b then x ∷ filter p xs else filter p xs)
    by true rest = (all.0, rest)
    by false rest = rest

-- ---- identifiers, each of which stands once

pub distinct_left : (p : Awaited → Bool) (awaited : List Awaited) → IsDistinct same_triple awaited → IsDistinct same_triple (filter p awaited)
distinct_left p [] distinct = distinct
distinct_left p (a ∷ awaited) distinct = by (p a) (distinct_left p awaited (IsDistinct-tail same_triple a awaited distinct))
  where
    by : (b : Bool) → IsDistinct same_triple (filter p awaited) → IsDistinct same_triple (if b then a ∷ filter p awaited else filter p awaited)
    by true rest =
        IsDistinct-cons same_triple a (filter p awaited) (others_left (λ b. same_triple a b ≡ false) p awaited (IsDistinct-head same_triple a awaited distinct)) rest
    by false rest = rest

others_stay : (a : Awaited) (awaited : List Awaited) → AllByRecursion (λ b. same_triple a b ≡ false) awaited → without (same_triple a) awaited ≡ awaited
others_stay a [] others = refl
others_stay a (b ∷ awaited) others =
    ap (λ t. if not t then b ∷ without (same_triple a) awaited else without (same_triple a) awaited) others.0
    ∙ ap (λ l. b ∷ l) (others_stay a awaited others.1)

abbrev one_if : Bool → ℕ
one_if b = if b then 1 else 0

-- one more at the front
longer : (b : Bool) (a : Awaited) (xs ys : List Awaited) (k : ℕ) → length xs + k ≡ length ys → length (if b then a ∷ xs else xs) + k ≡ length (if b then a ∷ ys else ys)
longer true a xs ys k e = omega arith
longer false a xs ys k e = e

one_longer : (b : Bool) (a : Awaited) (xs : List Awaited) → length xs + one_if b ≡ length (if b then a ∷ xs else xs)
one_longer true a xs = omega arith
one_longer false a xs = omega arith

-- one that stands there is taken away: a test finds one less if it found that
pub one_taken : (f : Awaited → Bool) (t : Awaited) (awaited : List Awaited) → IsDistinct same_triple awaited → list_any (same_triple t) awaited ≡ true →
    length (filter f (without (same_triple t) awaited)) + (if f t then 1 else 0) ≡ length (filter f awaited)
one_taken f t [] distinct there = absurd cc
one_taken f t (a ∷ awaited) distinct there =
    by (same_triple t a) refl there (one_taken f t awaited (IsDistinct-tail same_triple a awaited distinct))
  where
    by : (b : Bool) → same_triple t a ≡ b → (b || list_any (same_triple t) awaited) ≡ true →
        (list_any (same_triple t) awaited ≡ true → length (filter f (without (same_triple t) awaited)) + one_if (f t) ≡ length (filter f awaited)) →
        length (filter f (if not b then a ∷ without (same_triple t) awaited else without (same_triple t) awaited)) + one_if (f t)
        ≡ length (if f a then a ∷ filter f awaited else filter f awaited)
    by true is there rest =
        let e : t ≡ a = same_triple_is t a is in
        let stay : without (same_triple t) awaited ≡ awaited =
        subst (λ x. without (same_triple x) awaited ≡ awaited) (sym e) (others_stay a awaited (IsDistinct-head same_triple a awaited distinct)) in
        ap (λ l. length (filter f l) + one_if (f t)) stay ∙ ap (λ x. length (filter f awaited) + one_if (f x)) e ∙ one_longer (f a) a (filter f awaited)
    by false is there rest =
        longer (f a) a (filter f (without (same_triple t) awaited)) (filter f awaited) (one_if (f t)) (rest there)

-- and that test itself finds one, or none
pub one_or_none : (t : Awaited) (awaited : List Awaited) → IsDistinct same_triple awaited → length (filter (same_triple t) awaited) ≡ (if list_any (same_triple t) awaited then 1 else 0)
one_or_none t awaited distinct = by (list_any (same_triple t) awaited) refl
  where
    none : length (filter (same_triple t) (without (same_triple t) awaited)) ≡ 0
    none = ap length (none_left (same_triple t) (same_triple t) (λ x same. same) awaited)

    by : (b : Bool) → list_any (same_triple t) awaited ≡ b → length (filter (same_triple t) awaited) ≡ (if b then 1 else 0)
    by true there =
        sym (one_taken (same_triple t) t awaited distinct there)
        ∙ ap (λ n. n + one_if (same_triple t t)) none
        ∙ ap (λ b. 0 + one_if b) (same_triple_itself t)
    by false there = zero (length (filter (same_triple t) awaited)) (sym (some_pass (same_triple t) awaited) ∙ there)
      where
        zero : (n : ℕ) → nat_lt 0 n ≡ false → n ≡ 0
        zero n h = grind (arith, nat_tests)
