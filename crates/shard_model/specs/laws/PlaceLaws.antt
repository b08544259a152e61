-- Where an element stands in lists that are joined, mapped, filtered or cut, and lists of messages whose offsets rise.
use Rattle.std.proofs.Common.{◌≡◌, ◌⊎◌, inl, inr, ℕ, zero, suc, ◌+◌, ◌<◌, ◌≤◌, Bool, true, false, if◌then◌else◌, List}
use Rattle.std.proofs.Common.{[], ◌∷◌, ◌++◌, length, map, filter, take, drop, Some, slice_get, refl, sym, ap, subst}
use Rattle.std.proofs.Common.{◌∙◌, arith}
use Rattle.topic_model.specs.Places.{HasPlace}
use Rattle.std.specs.List.{list_any}
use Rattle.std.proofs.lemmas.Bool.{or_left, or_right, or_from, or_cases}
use Rattle.std.proofs.lemmas.Option.{none-some, same_Some}
use Rattle.topic_model.specs.StoredMessage.{StoredMessage}
use Rattle.shard_model.specs.Streams.{StreamMessage}
use Rattle.shard_model.specs.SweepOrder.{counted_from}

abbrev head : ℕ → List ℕ → ℕ
head other [] = other
head other (n ∷ ns) = n

module _ {A : Type 0} where
  pub place_left : (xs ys : List A) (k : ℕ) (x : A) → slice_get xs k ≡ Some x → HasPlace (xs ++ ys) x
  place_left [] ys k x e = absurd (none-some x e)
  place_left (y ∷ xs) ys zero x e = (0, e)
  place_left (y ∷ xs) ys (suc k) x e = let rest = place_left xs ys k x e in (suc rest.0, rest.1)

  pub place_right : (xs ys : List A) (k : ℕ) (x : A) → slice_get ys k ≡ Some x → HasPlace (xs ++ ys) x
  place_right [] ys k x e = (k, e)
  place_right (y ∷ xs) ys k x e = let rest = place_right xs ys k x e in (suc rest.0, rest.1)

  pub place_either : (xs ys : List A) (k : ℕ) (x : A) → slice_get (xs ++ ys) k ≡ Some x → HasPlace xs x ⊎ HasPlace ys x
  place_either [] ys k x e = inr (k, e)
  place_either (y ∷ xs) ys zero x e = inl (0, e)
  place_either (y ∷ xs) ys (suc k) x e = by (place_either xs ys k x e)
    where
      by : HasPlace xs x ⊎ HasPlace ys x → HasPlace (y ∷ xs) x ⊎ HasPlace ys x
      by (inl there) = inl (suc there.0, there.1)
      by (inr there) = inr there

  pub place_kept : (p : A → Bool) (xs : List A) (k : ℕ) (x : A) → slice_get xs k ≡ Some x → p x ≡ true →
      HasPlace (filter p xs) x
  place_kept p [] k x e passes = absurd (none-some x e)
  place_kept p (y ∷ xs) zero x e passes =
      (0, ap (λ b. slice_get (if b then y ∷ filter p xs else filter p xs) 0) (ap p (same_Some y x e) ∙ passes) ∙ e)
  place_kept p (y ∷ xs) (suc k) x e passes = by (p y) (place_kept p xs k x e passes)
    where
      by : (b : Bool) → HasPlace (filter p xs) x → HasPlace (if b then y ∷ filter p xs else filter p xs) x
      by true there = (suc there.0, there.1)
      by false there = there

  pub kept_place : (p : A → Bool) (xs : List A) (k : ℕ) (x : A) → slice_get (filter p xs) k ≡ Some x → HasPlace xs x
      × (p x ≡ true)
  kept_place p [] k x e = absurd (none-some x e)
  kept_place p (y ∷ xs) k x e = by (p y) refl k e (λ k e. kept_place p xs k x e)
    where
      by : (b : Bool) → p y ≡ b → (k : ℕ) → slice_get (if b then y ∷ filter p xs else filter p xs) k ≡ Some x →
          ((k : ℕ) → slice_get (filter p xs) k ≡ Some x → HasPlace xs x × (p x ≡ true))
          → HasPlace (y ∷ xs) x × (p x ≡ true)
      by true passes zero e later = ((0, e), ap p (sym (same_Some y x e)) ∙ passes)
      by true passes (suc k) e later = let rest = later k e in ((suc rest.0.0, rest.0.1), rest.1)
      by false fails k e later = let rest = later k e in ((suc rest.0.0, rest.0.1), rest.1)

  pub any_place : (p : A → Bool) (xs : List A) (k : ℕ) (x : A) → slice_get xs k ≡ Some x → p x ≡ true →
      list_any p xs ≡ true
  any_place p [] k x e passes = absurd (none-some x e)
  any_place p (y ∷ xs) zero x e passes = or_left (p y) (list_any p xs) (ap p (same_Some y x e) ∙ passes)
  any_place p (y ∷ xs) (suc k) x e passes = or_right (p y) (list_any p xs) (any_place p xs k x e passes)

  pub place_any : (p : A → Bool) (xs : List A) → list_any p xs ≡ true → (k : ℕ) × (x : A) × (slice_get xs k ≡ Some x)
      × (p x ≡ true)
  place_any p [] any = cc
  place_any p (y ∷ xs) any = by (or_cases (p y) (list_any p xs) any) (λ any. place_any p xs any)
    where
      by : (p y ≡ true) ⊎ (list_any p xs ≡ true) →
          (list_any p xs ≡ true → (k : ℕ) × (x : A) × (slice_get xs k ≡ Some x) × (p x ≡ true)) → (k : ℕ) × (x : A)
          × (slice_get (y ∷ xs) k ≡ Some x) × (p x ≡ true)
      by (inl here) later = (0, y, refl, here)
      by (inr there) later = let rest = later there in (suc rest.0, rest.1, rest.2, rest.3)

  pub none_places : (p : A → Bool) (xs : List A) → ((k : ℕ) (x : A) → slice_get xs k ≡ Some x → p x ≡ false) →
      list_any p xs ≡ false
  none_places p [] fails = refl
  none_places p (y ∷ xs) fails = or_from (p y) (list_any p xs) (fails 0 y refl)
      (none_places p xs (λ k x e. fails (suc k) x e))

  pub none_kept : (p : A → Bool) (xs : List A) (k : ℕ) (x : A) → filter p xs ≡ [] → slice_get xs k ≡ Some x →
      p x ≡ false
  none_kept p xs k x none e = by (p x) refl
    where
      by : (b : Bool) → p x ≡ b → p x ≡ false
      by false fails = fails
      by true passes = let there = place_kept p xs k x e passes in
          absurd (none-some x (ap (λ l. slice_get l there.0) (sym none) ∙ there.1))

  pub place_taken : (n : ℕ) (xs : List A) (k : ℕ) (x : A) → slice_get (take n xs) k ≡ Some x → slice_get xs k ≡ Some x
  place_taken zero xs k x e = absurd (none-some x e)
  place_taken (suc n) [] k x e = absurd (none-some x e)
  place_taken (suc n) (y ∷ xs) zero x e = e
  place_taken (suc n) (y ∷ xs) (suc k) x e = place_taken n xs k x e

  pub place_within : (n : ℕ) (xs : List A) (k : ℕ) (x : A) → slice_get (take n xs) k ≡ Some x → k < n
  place_within zero xs k x e = absurd (none-some x e)
  place_within (suc n) [] k x e = absurd (none-some x e)
  place_within (suc n) (y ∷ xs) zero x e = omega arith
  place_within (suc n) (y ∷ xs) (suc k) x e = let rest = place_within n xs k x e in omega arith

  pub taken_under : (n : ℕ) (xs : List A) (k : ℕ) (x : A) → k < n → slice_get xs k ≡ Some x →
      slice_get (take n xs) k ≡ Some x
  taken_under zero xs k x less e = absurd (omega arith)
  taken_under (suc n) [] k x less e = absurd (none-some x e)
  taken_under (suc n) (y ∷ xs) zero x less e = e
  taken_under (suc n) (y ∷ xs) (suc k) x less e = taken_under n xs k x (omega arith) e

  pub taken_before : (n : ℕ) (xs : List A) (k j : ℕ) (x y : A) → slice_get (take n xs) k ≡ Some x → j < k →
      slice_get xs j ≡ Some y → slice_get (take n xs) j ≡ Some y
  taken_before zero xs k j x y e before f = absurd (none-some x e)
  taken_before (suc n) [] k j x y e before f = absurd (none-some x e)
  taken_before (suc n) (z ∷ xs) zero j x y e before f = absurd (omega arith)
  taken_before (suc n) (z ∷ xs) (suc k) zero x y e before f = f
  taken_before (suc n) (z ∷ xs) (suc k) (suc j) x y e before f = taken_before n xs k j x y e (omega arith) f

  -- what counts up by one along a list
  pub counted_place : (f : A → ℕ) (xs : List A) (first k : ℕ) (x : A) → map f xs ≡ counted_from first (length xs) →
      slice_get xs k ≡ Some x → f x ≡ first + k
  counted_place f [] first k x counted e = absurd (none-some x e)
  counted_place f (y ∷ xs) first zero x counted e =
      let at : f y ≡ first = ap (head first) counted in let same : f y ≡ f x = ap f (same_Some y x e) in omega arith
  counted_place f (y ∷ xs) first (suc k) x counted e =
      let rest : f x ≡ first + 1 + k = counted_place f xs (first + 1) k x (ap (drop 1) counted) e in omega arith

  pub counted_cut : (f : A → ℕ) (xs : List A) (first n k : ℕ) → map f xs ≡ counted_from first (length xs) →
      k + n ≤ length xs → map f (take n (drop k xs)) ≡ counted_from (first + k) n
  counted_cut f xs first zero zero counted fits = refl
  counted_cut f [] first (suc n) zero counted fits = absurd (omega arith)
  counted_cut f (x ∷ xs) first (suc n) zero counted fits =
      let rest : map f (take n xs) ≡ counted_from (first + 1 + 0) n =
      counted_cut f xs (first + 1) n zero (ap (drop 1) counted) (omega arith) in
      let here : first + 1 + 0 ≡ first + 0 + 1 = omega arith in
      let at : f x ≡ first + 0 = (let at : f x ≡ first = ap (head first) counted in omega arith) in
      ap (λ y. y ∷ map f (take n xs)) at ∙ ap (λ l. (first + 0) ∷ l) (rest ∙ ap (λ y. counted_from y n) here)
  counted_cut f [] first zero (suc k) counted fits = absurd (omega arith)
  counted_cut f [] first (suc n) (suc k) counted fits = absurd (omega arith)
  counted_cut f (x ∷ xs) first n (suc k) counted fits =
      let same : first + 1 + k ≡ first + suc k = omega arith in
      counted_cut f xs (first + 1) n k (ap (drop 1) counted) (omega arith) ∙ ap (λ y. counted_from y n) same

module _ {A B : Type 0} (f : A → B) where
  pub place_mapped : (xs : List A) (k : ℕ) (x : A) → slice_get xs k ≡ Some x → slice_get (map f xs) k ≡ Some (f x)
  place_mapped [] k x e = absurd (none-some x e)
  place_mapped (y ∷ xs) zero x e = ap (λ z. Some (f z)) (same_Some y x e)
  place_mapped (y ∷ xs) (suc k) x e = place_mapped xs k x e

  pub mapped_place : (xs : List A) (k : ℕ) (y : B) → slice_get (map f xs) k ≡ Some y → (x : A)
      × (slice_get xs k ≡ Some x) × (f x ≡ y)
  mapped_place [] k y e = absurd (none-some y e)
  mapped_place (x ∷ xs) zero y e = (x, refl, same_Some (f x) y e)
  mapped_place (x ∷ xs) (suc k) y e = mapped_place xs k y e

-- ---- rising offsets

-- each offset is at least so great and greater than the one before it
abbrev pub Rising : ℕ → List StoredMessage → Type 0
Rising low [] = Unit {0}
Rising low (m ∷ ms) = (low ≤ m.offset) × Rising (m.offset + 1) ms

pub rising_low : (low : ℕ) (ms : List StoredMessage) (k : ℕ) (m : StoredMessage) → Rising low ms →
    slice_get ms k ≡ Some m → low ≤ m.offset
rising_low low [] k m rising e = absurd (none-some m e)
rising_low low (x ∷ ms) zero m rising e = subst (λ (y : StoredMessage). low ≤ y.offset) (same_Some x m e) rising.0
rising_low low (x ∷ ms) (suc k) m rising e =
    let here : low ≤ x.offset = rising.0 in let rest : x.offset + 1 ≤ m.offset =
    rising_low (x.offset + 1) ms k m rising.1 e in omega arith

pub rising_places : (low : ℕ) (ms : List StoredMessage) (k j : ℕ) (m n : StoredMessage) → Rising low ms →
    slice_get ms k ≡ Some m → slice_get ms j ≡ Some n → k < j → m.offset < n.offset
rising_places low [] k j m n rising e f before = absurd (none-some m e)
rising_places low (x ∷ ms) zero zero m n rising e f before = absurd (omega arith)
rising_places low (x ∷ ms) zero (suc j) m n rising e f before =
    let same : x.offset ≡ m.offset = ap (λ (y : StoredMessage). y.offset) (same_Some x m e) in
    let rest : x.offset + 1 ≤ n.offset = rising_low (x.offset + 1) ms j n rising.1 f in
    omega arith
rising_places low (x ∷ ms) (suc k) zero m n rising e f before = absurd (omega arith)
rising_places low (x ∷ ms) (suc k) (suc j) m n rising e f before =
    rising_places (x.offset + 1) ms k j m n rising.1 e f (omega arith)

-- what is kept of consecutive messages rises
pub kept_rise : (p : StreamMessage → Bool) (low first : ℕ) (ss : List StreamMessage) →
    map (λ (s : StreamMessage). s.message.offset) ss ≡ counted_from first (length ss) → low ≤ first →
    Rising low (map (λ (s : StreamMessage). s.message) (filter p ss))
kept_rise p low first [] counted from = tt
kept_rise p low first (s ∷ ss) counted from =
    by (p s) (λ low from. kept_rise p low (first + 1) ss (ap (drop 1) counted) from)
  where
    at : s.message.offset ≡ first
    at = let e : s.message.offset ≡ first + 0 =
        counted_place (λ (x : StreamMessage). x.message.offset) (s ∷ ss) first 0 s counted refl in omega arith

    by : (b : Bool) → ((low : ℕ) → low ≤ first + 1 → Rising low (map (λ (s : StreamMessage). s.message) (filter p ss)))
        → Rising low (map (λ (s : StreamMessage). s.message) (if b then s ∷ filter p ss else filter p ss))
    by true later = (omega (arith, at), later (s.message.offset + 1) (omega (arith, at)))
    by false later = later low (omega arith)
