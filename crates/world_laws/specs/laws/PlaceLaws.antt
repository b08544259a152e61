-- What stands in lists that are joined, filtered, mapped and cut.
use Rattle.std.proofs.Common.{◌≡◌, ◌⊎◌, inl, inr, ℕ, zero, suc, ◌+◌, Bool, true, false, List, [], ◌∷◌, ◌++◌, filter}
use Rattle.std.proofs.Common.{map}
use Rattle.std.proofs.Common.{take, drop, find, slice_get, Option, Some, None, refl, sym, ap, ◌∙◌}
use Rattle.std.specs.Prelude.{if◌then◌else◌}
use Rattle.std.proofs.lemmas.Option.{none-some, same_Some}
use Rattle.topic_model.specs.Places.{HasPlace}

module _ {A : Type 0} where
  pub place_front : (x : A) (xs : List A) → HasPlace (x ∷ xs) x
  place_front x xs = (0, refl)

  pub place_behind : (y x : A) (xs : List A) → HasPlace xs x → HasPlace (y ∷ xs) x
  place_behind y x xs (k, e) = (suc k, e)

  pub no_place : (x : A) → HasPlace [] x → ⊥
  no_place x (k, e) = none-some x e

  pub place_cases : (y x : A) (xs : List A) → HasPlace (y ∷ xs) x → (x ≡ y) ⊎ HasPlace xs x
  place_cases y x xs (zero, e) = inl (sym (same_Some y x e))
  place_cases y x xs (suc k, e) = inr (k, e)

  -- joined
  pub place_first : (xs ys : List A) (x : A) → HasPlace xs x → HasPlace (xs ++ ys) x
  place_first [] ys x has = absurd (no_place x has)
  place_first (z ∷ xs) ys x (zero, e) = (0, e)
  place_first (z ∷ xs) ys x (suc k, e) = place_behind z x (xs ++ ys) (place_first xs ys x (k, e))

  pub place_second : (xs ys : List A) (x : A) → HasPlace ys x → HasPlace (xs ++ ys) x
  place_second [] ys x has = has
  place_second (z ∷ xs) ys x has = place_behind z x (xs ++ ys) (place_second xs ys x has)

  pub place_in_both : (xs ys : List A) (x : A) → HasPlace (xs ++ ys) x → HasPlace xs x ⊎ HasPlace ys x
  place_in_both [] ys x has = inr has
  place_in_both (z ∷ xs) ys x has = by (place_in_both xs ys x) (place_cases z x (xs ++ ys) has)
    where
      further : HasPlace xs x ⊎ HasPlace ys x → HasPlace (z ∷ xs) x ⊎ HasPlace ys x
      further (inl first) = inl (place_behind z x xs first)
      further (inr second) = inr second

      by : (HasPlace (xs ++ ys) x → HasPlace xs x ⊎ HasPlace ys x) → ((x ≡ z) ⊎ HasPlace (xs ++ ys) x) →
          HasPlace (z ∷ xs) x ⊎ HasPlace ys x
      by rest (inl same) = inl (0, ap Some (sym same))
      by rest (inr behind) = further (rest behind)

  -- filtered
  pub place_filtered : (test : A → Bool) (xs : List A) (x : A) → HasPlace (filter test xs) x →
      HasPlace xs x × (test x ≡ true)
  place_filtered test [] x has = absurd (no_place x has)
  place_filtered test (z ∷ xs) x has = by (place_filtered test xs x) (test z) refl has
    where
      behind : HasPlace xs x × (test x ≡ true) → HasPlace (z ∷ xs) x × (test x ≡ true)
      behind both = (place_behind z x xs both.0, both.1)

      front : (HasPlace (filter test xs) x → HasPlace xs x × (test x ≡ true)) → (test z ≡ true) →
          ((x ≡ z) ⊎ HasPlace (filter test xs) x) → HasPlace (z ∷ xs) x × (test x ≡ true)
      front rest passes (inl same) = ((0, ap Some (sym same)), ap test same ∙ passes)
      front rest passes (inr later) = behind (rest later)

      by : (HasPlace (filter test xs) x → HasPlace xs x × (test x ≡ true)) → (b : Bool) → test z ≡ b →
          HasPlace (if b then z ∷ filter test xs else filter test xs) x → HasPlace (z ∷ xs) x × (test x ≡ true)
      by rest true passes there = front rest passes (place_cases z x (filter test xs) there)
      by rest false fails there = behind (rest there)

  -- the first that passes a test
  pub place_found : (test : A → Bool) (xs : List A) (x : A) → find test xs ≡ Some x → HasPlace xs x × (test x ≡ true)
  place_found test [] x found = absurd (none-some x found)
  place_found test (z ∷ xs) x found = by (place_found test xs x) (test z) refl found
    where
      by : (find test xs ≡ Some x → HasPlace xs x × (test x ≡ true)) → (b : Bool) → test z ≡ b →
          (if b then Some z else find test xs) ≡ Some x → HasPlace (z ∷ xs) x × (test x ≡ true)
      by rest true passes e = ((0, e), ap test (sym (same_Some z x e)) ∙ passes)
      by rest false fails e = let both = rest e in (place_behind z x xs both.0, both.1)

  -- cut
  pub place_taken : (n : ℕ) (xs : List A) (x : A) → HasPlace (take n xs) x → HasPlace xs x
  place_taken zero xs x has = absurd (no_place x has)
  place_taken (suc n) [] x has = absurd (no_place x has)
  place_taken (suc n) (z ∷ xs) x (zero, e) = (0, e)
  place_taken (suc n) (z ∷ xs) x (suc k, e) = place_behind z x xs (place_taken n xs x (k, e))

  pub place_dropped : (n : ℕ) (xs : List A) (x : A) → HasPlace (drop n xs) x → HasPlace xs x
  place_dropped zero xs x has = has
  place_dropped (suc n) [] x has = has
  place_dropped (suc n) (z ∷ xs) x has = place_behind z x xs (place_dropped n xs x has)

pub place_mapped : {A : Type 0} {B : Type 0} (f : A → B) (xs : List A) (y : B) → HasPlace (map f xs) y →
    (x : A) × (HasPlace xs x × (y ≡ f x))
place_mapped f [] y has = absurd (no_place y has)
place_mapped f (x ∷ xs) y (zero, e) = (x, ((0, refl), sym (same_Some (f x) y e)))
place_mapped f (x ∷ xs) y (suc k, e) = further (place_mapped f xs y (k, e))
  where
    further : ((z : _) × (HasPlace xs z × (y ≡ f z))) → (z : _) × (HasPlace (x ∷ xs) z × (y ≡ f z))
    further (z, (has, same)) = (z, (place_behind x z xs has, same))

pub place_through : {A : Type 0} {B : Type 0} (f : A → B) (xs : List A) (x : A) → HasPlace xs x → HasPlace (map f xs)
    (f x)
place_through f [] x has = absurd (no_place x has)
place_through f (z ∷ xs) x (zero, e) = (0, ap Some (ap f (same_Some z x e)))
place_through f (z ∷ xs) x (suc k, e) = place_behind (f z) (f x) (map f xs) (place_through f xs x (k, e))
