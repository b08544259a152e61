-- What a filter leaves.
use Rattle.std.proofs.Common.{◌≡◌, suc, ◌≤◌, Bool, true, false, if◌then◌else◌, List, [], ◌∷◌, length, filter, refl, ap, ◌∙◌, arith}

module _ {X : Type 0} where
  pub filter_shorter : (p : X → Bool) (xs : List X) → length (filter p xs) ≤ length xs
  filter_shorter p [] = omega arith
  filter_shorter p (x ∷ xs) = by (p x) (filter_shorter p xs)
    where
      by : (b : Bool) → length (filter p xs) ≤ length xs → length (if b then x ∷ filter p xs else filter p xs) ≤ suc (length xs)
      by false rest = omega arith
      by true rest = omega arith

  -- what a filter leaves as it is passes
  pub kept_cons : (p : X → Bool) (x : X) (xs : List X) → filter p (x ∷ xs) ≡ x ∷ xs → (p x ≡ true) × (filter p xs ≡ xs)
  kept_cons p x xs e = by (p x) refl e
    where
      by : (b : Bool) → p x ≡ b → (if b then x ∷ filter p xs else filter p xs) ≡ x ∷ xs → (p x ≡ true) × (filter p xs ≡ xs)
      by true is e = (is, cc)
      by false is e =
          let same : length (filter p xs) ≡ suc (length xs) = ap length e in
          let less = filter_shorter p xs in
          absurd (omega arith)

  -- as long as before means the same
  pub filter_whole : (p : X → Bool) (xs : List X) → length xs ≤ length (filter p xs) → filter p xs ≡ xs
  filter_whole p [] h = refl
  filter_whole p (x ∷ xs) h = by (p x) h (filter_whole p xs) (filter_shorter p xs)
    where
      by : (b : Bool) → suc (length xs) ≤ length (if b then x ∷ filter p xs else filter p xs) → (length xs ≤ length (filter p xs) → filter p xs ≡ xs) →
          length (filter p xs) ≤ length xs → (if b then x ∷ filter p xs else filter p xs) ≡ x ∷ xs
      by true h rest less = ap (λ l. x ∷ l) (rest (omega arith))
      by false h rest less = absurd (omega arith)

  -- another test that passes what passed leaves it too
  pub kept_by_more : (p q : X → Bool) (xs : List X) → ((x : X) → p x ≡ true → q x ≡ true) → filter p xs ≡ xs → filter q xs ≡ xs
  kept_by_more p q [] more e = refl
  kept_by_more p q (x ∷ xs) more e =
      let k = kept_cons p x xs e in
      ap (λ b. if b then x ∷ filter q xs else filter q xs) (more x k.0) ∙ ap (λ l. x ∷ l) (kept_by_more p q xs more k.1)

  -- what passed one test is left by another that passes the same
  pub filter_twice : (p q : X → Bool) (xs : List X) → ((x : X) → p x ≡ true → q x ≡ true) → filter q (filter p xs) ≡ filter p xs
  filter_twice p q [] more = refl
  filter_twice p q (x ∷ xs) more = by (p x) refl (filter_twice p q xs more)
    where
      by : (b : Bool) → p x ≡ b → filter q (filter p xs) ≡ filter p xs → filter q (if b then x ∷ filter p xs else filter p xs) ≡ (if b then x ∷ filter p xs else filter p xs)
      by true is rest = ap (λ c. if c then x ∷ filter q (filter p xs) else filter q (filter p xs)) (more x is) ∙ ap (λ l. x ∷ l) rest
      by false is rest = rest
