-- What filters leave of lists, and lists that are numbered.
use Rattle.std.proofs.Common.{◌≡◌, ◌⊎◌, inl, inr, ℕ, suc, ◌+◌, ◌≤◌, ◌<◌, Bool, true, false, ◌||◌, ◌==◌, if◌then◌else◌}
use Rattle.std.proofs.Common.{List, [], ◌∷◌, ◌++◌, length, map, filter, find, Some, true≢false, refl, sym, ap, ◌∙◌}
use Rattle.std.proofs.Common.{arith}
use Rattle.std.specs.List.{list_any}
use Rattle.std.proofs.lemmas.Bool.{or_cases, or_left, or_right, eqb-true}
use Rattle.std.proofs.lemmas.Option.{none-some, same_Some}
use Rattle.std.proofs.lemmas.List.{map-append, length-append}
use Rattle.session_model.specs.Acting.{numbers_from}
use Rattle.seq_tracks.specs.ListLaws.{from-push}

-- P holds of each element, by recursion
abbrev pub Each : {X : Type 0} → (X → Type 0) → List X → Type 0
Each P [] = Unit {0}
Each P (x ∷ xs) = P x × Each P xs

abbrev head : List ℕ → ℕ
head [] = 0
head (n ∷ ns) = n

abbrev tail : List ℕ → List ℕ
tail [] = []
tail (n ∷ ns) = ns

module _ {X : Type 0} where
  pub each_of : (P : X → Type 0) → ((x : X) → P x) → (xs : List X) → Each P xs
  each_of P all [] = tt
  each_of P all (x ∷ xs) = (all x, each_of P all xs)

  pub each_weaker : (P Q : X → Type 0) → ((x : X) → P x → Q x) → (xs : List X) → Each P xs → Each Q xs
  each_weaker P Q so [] h = tt
  each_weaker P Q so (x ∷ xs) h = (so x h.0, each_weaker P Q so xs h.1)

  pub each_left : (P : X → Type 0) (xs ys : List X) → Each P (xs ++ ys) → Each P xs
  each_left P [] ys h = tt
  each_left P (x ∷ xs) ys h = (h.0, each_left P xs ys h.1)

  pub each_right : (P : X → Type 0) (xs ys : List X) → Each P (xs ++ ys) → Each P ys
  each_right P [] ys h = h
  each_right P (x ∷ xs) ys h = each_right P xs ys h.1

  pub each_append : (P : X → Type 0) (xs ys : List X) → Each P xs → Each P ys → Each P (xs ++ ys)
  each_append P [] ys h more = more
  each_append P (x ∷ xs) ys h more = (h.0, each_append P xs ys h.1 more)

  pub each_mapped : {Y : Type 0} (P : Y → Type 0) (f : X → Y) (xs : List X) → Each (λ x. P (f x)) xs → Each P (map f xs)
  each_mapped P f [] h = tt
  each_mapped P f (x ∷ xs) h = (h.0, each_mapped P f xs h.1)

  -- ---- filters

  pub filter_alike : (p q : X → Bool) (xs : List X) → Each (λ x. p x ≡ q x) xs → filter p xs ≡ filter q xs
  filter_alike p q [] h = refl
  filter_alike p q (x ∷ xs) h =
      ap (λ b. if b then x ∷ filter p xs else filter p xs) h.0
      ∙ ap (λ l. if q x then x ∷ l else l) (filter_alike p q xs h.1)

  -- what the first test lets through, where all that passes the second passes it
  pub filter_within : (p q : X → Bool) (xs : List X) → Each (λ x. p x ≡ true → q x ≡ true) xs →
      filter p (filter q xs) ≡ filter p xs
  filter_within p q [] h = refl
  filter_within p q (x ∷ xs) h = by (q x) refl (filter_within p q xs h.1)
    where
      by : (b : Bool) → q x ≡ b → filter p (filter q xs) ≡ filter p xs →
          filter p (if b then x ∷ filter q xs else filter q xs) ≡ filter p (x ∷ xs)
      by true is rest = ap (λ l. if p x then x ∷ l else l) rest
      by false is rest = rest ∙ at (p x) refl
        where
          at : (c : Bool) → p x ≡ c → filter p xs ≡ (if c then x ∷ filter p xs else filter p xs)
          at true passes = absurd (true≢false (sym (h.0 passes) ∙ is))
          at false fails = refl

  pub any_within : (p q : X → Bool) (xs : List X) → Each (λ x. p x ≡ true → q x ≡ true) xs →
      list_any p (filter q xs) ≡ list_any p xs
  any_within p q [] h = refl
  any_within p q (x ∷ xs) h = by (q x) refl (any_within p q xs h.1)
    where
      by : (b : Bool) → q x ≡ b → list_any p (filter q xs) ≡ list_any p xs →
          list_any p (if b then x ∷ filter q xs else filter q xs) ≡ (p x || list_any p xs)
      by true is rest = ap (λ c. p x || c) rest
      by false is rest = rest ∙ at (p x) refl
        where
          at : (c : Bool) → p x ≡ c → list_any p xs ≡ (c || list_any p xs)
          at true passes = absurd (true≢false (sym (h.0 passes) ∙ is))
          at false fails = refl

  -- what some element passes, some element passes of a longer filter with a weaker test
  pub any_more : (p q r s : X → Bool) (xs : List X) →
      Each (λ x. p x ≡ true → q x ≡ true → (r x ≡ true) × (s x ≡ true)) xs →
      list_any p (filter q xs) ≡ true → list_any r (filter s xs) ≡ true
  any_more p q r s [] h found = absurd (true≢false (sym found))
  any_more p q r s (x ∷ xs) h found = by (q x) refl found (any_more p q r s xs h.1)
    where
      later : (b : Bool) → list_any r (filter s xs) ≡ true →
          list_any r (if b then x ∷ filter s xs else filter s xs) ≡ true
      later true is = or_right (r x) (list_any r (filter s xs)) is
      later false is = is

      by : (b : Bool) → q x ≡ b → list_any p (if b then x ∷ filter q xs else filter q xs) ≡ true →
          (list_any p (filter q xs) ≡ true → list_any r (filter s xs) ≡ true) →
          list_any r (if s x then x ∷ filter s xs else filter s xs) ≡ true
      by false fails found rest = later (s x) (rest found)
      by true passes found rest = at (or_cases (p x) (list_any p (filter q xs)) found)
        where
          at : (p x ≡ true) ⊎ (list_any p (filter q xs) ≡ true) →
              list_any r (if s x then x ∷ filter s xs else filter s xs) ≡ true
          at (inl here) =
              let both = h.0 here passes in
              ap (λ b. list_any r (if b then x ∷ filter s xs else filter s xs)) both.1
              ∙ or_left (r x) (list_any r (filter s xs)) both.0
          at (inr there) = later (s x) (rest there)

  pub any_also : (p r : X → Bool) (xs : List X) → Each (λ x. p x ≡ true → r x ≡ true) xs → list_any p xs ≡ true →
      list_any r xs ≡ true
  any_also p r [] h found = found
  any_also p r (x ∷ xs) h found = by (or_cases (p x) (list_any p xs) found) (any_also p r xs h.1)
    where
      by : (p x ≡ true) ⊎ (list_any p xs ≡ true) → (list_any p xs ≡ true → list_any r xs ≡ true) →
          (r x || list_any r xs) ≡ true
      by (inl here) rest = or_left (r x) (list_any r xs) (h.0 here)
      by (inr there) rest = or_right (r x) (list_any r xs) (rest there)

  pub any_alike : (p q : X → Bool) → ((x : X) → p x ≡ q x) → (xs : List X) → list_any p xs ≡ list_any q xs
  any_alike p q same [] = refl
  any_alike p q same (x ∷ xs) = ap (λ b. b || list_any p xs) (same x) ∙ ap (λ b. q x || b) (any_alike p q same xs)

  pub filter_mapped : {Y : Type 0} (p : Y → Bool) (f : X → Y) (xs : List X) →
      filter p (map f xs) ≡ map f (filter (λ x. p (f x)) xs)
  filter_mapped p f [] = refl
  filter_mapped p f (x ∷ xs) = by (p (f x)) (filter_mapped p f xs)
    where
      by : (b : Bool) → filter p (map f xs) ≡ map f (filter (λ x. p (f x)) xs) →
          (if b then f x ∷ filter p (map f xs) else filter p (map f xs))
          ≡ map f (if b then x ∷ filter (λ x. p (f x)) xs else filter (λ x. p (f x)) xs)
      by true rest = ap (λ l. f x ∷ l) rest
      by false rest = rest

  pub any_mapped : {Y : Type 0} (p : Y → Bool) (f : X → Y) (xs : List X) →
      list_any p (map f xs) ≡ list_any (λ x. p (f x)) xs
  any_mapped p f [] = refl
  any_mapped p f (x ∷ xs) = ap (λ b. p (f x) || b) (any_mapped p f xs)

  -- ---- found elements

  -- what is found in a list is found with more behind it
  pub find_before : (p : X → Bool) (xs ys : List X) (x : X) → find p xs ≡ Some x → find p (xs ++ ys) ≡ Some x
  find_before p [] ys x is = absurd (none-some x is)
  find_before p (y ∷ xs) ys x is = by (p y) is (find_before p xs ys x)
    where
      by : (b : Bool) → (if b then Some y else find p xs) ≡ Some x → (find p xs ≡ Some x → find p (xs ++ ys) ≡ Some x) →
          (if b then Some y else find p (xs ++ ys)) ≡ Some x
      by true is rest = is
      by false is rest = rest is

  -- ---- lists with numbers from one on

  -- each number lies below the next one
  pub numbers_below : (number : X → ℕ) (start : ℕ) (xs : List X) → map number xs ≡ numbers_from start (length xs) →
      Each (λ x. (start ≤ number x) × (number x < start + length xs)) xs
  numbers_below number start [] e = tt
  numbers_below number start (x ∷ xs) e =
      let here : number x ≡ start = ap head e in
      let rest : map number xs ≡ numbers_from (start + 1) (length xs) = ap tail e in (
        (omega arith, omega arith),
        each_weaker (λ x. (start + 1 ≤ number x) × (number x < start + 1 + length xs))
            (λ x. (start ≤ number x) × (number x < start + suc (length xs)))
            (λ x h. (let low = h.0 in omega arith, let high = h.1 in omega arith)) xs
            (numbers_below number (start + 1) xs rest),
      )

  -- one more at the end goes on
  pub numbers_pushed : (number : X → ℕ) (xs : List X) (x : X) → map number xs ≡ numbers_from 1 (length xs) →
      number x ≡ length xs + 1 →
      map number (xs ++ x ∷ []) ≡ numbers_from 1 (length (xs ++ x ∷ []))
  numbers_pushed number xs x e is =
      let next : number x ≡ 1 + length xs = omega (arith, is) in
      map-append number xs (x ∷ [])
      ∙ ap (λ l. l ++ number x ∷ []) e
      ∙ from-push 1 (length xs) (number x) next
      ∙ ap (numbers_from 1) (sym (length-append xs (x ∷ [])))

  -- what is found by its number is the only one that has it
  pub found_alone : (number : X → ℕ) (start n : ℕ) (xs : List X) (x : X) →
      map number xs ≡ numbers_from start (length xs) → find (λ y. number y == n) xs ≡ Some x →
      Each (λ y. (number y == n) ≡ true → y ≡ x) xs
  found_alone number start n [] x e is = tt
  found_alone number start n (y ∷ xs) x e is = by (number y == n) refl is (found_alone number (start + 1) n xs x rest)
    where
      here : number y ≡ start
      here = ap head e

      rest : map number xs ≡ numbers_from (start + 1) (length xs)
      rest = ap tail e

      by : (b : Bool) → (number y == n) ≡ b → (if b then Some y else find (λ y. number y == n) xs) ≡ Some x →
          (find (λ y. number y == n) xs ≡ Some x → Each (λ y. (number y == n) ≡ true → y ≡ x) xs) →
          ((number y == n) ≡ true → y ≡ x) × Each (λ y. (number y == n) ≡ true → y ≡ x) xs
      by true same is later = (
        λ t. same_Some y x is,
        each_weaker (λ z. (start + 1 ≤ number z) × (number z < start + 1 + length xs))
            (λ z. (number z == n) ≡ true → z ≡ x)
            (λ z h t. let one = eqb-true (number y) n same in let two = eqb-true (number z) n t in let low =
            h.0 in absurd (omega (arith, here)))
            xs (numbers_below number (start + 1) xs rest),
      )
      by false other is later = (λ t. absurd (true≢false (sym t ∙ other)), later is)

  pub any_of_filtered : (p q : X → Bool) (xs : List X) → list_any p (filter q xs) ≡ true → list_any p xs ≡ true
  any_of_filtered p q [] found = found
  any_of_filtered p q (x ∷ xs) found = by (q x) found (any_of_filtered p q xs)
    where
      by : (b : Bool) → list_any p (if b then x ∷ filter q xs else filter q xs) ≡ true →
          (list_any p (filter q xs) ≡ true → list_any p xs ≡ true) → (p x || list_any p xs) ≡ true
      by false found rest = or_right (p x) (list_any p xs) (rest found)
      by true found rest = at (or_cases (p x) (list_any p (filter q xs)) found)
        where
          at : (p x ≡ true) ⊎ (list_any p (filter q xs) ≡ true) → (p x || list_any p xs) ≡ true
          at (inl here) = or_left (p x) (list_any p xs) here
          at (inr there) = or_right (p x) (list_any p xs) (rest there)
