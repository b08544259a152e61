-- Tests of all elements of a list, and of some.
use Rattle.std.proofs.Common.{◌≡◌, ◌⊎◌, inl, inr, ℕ, ◌+◌, ◌≤◌, Bool, true, false, ◌&&◌, ◌||◌, ◌==◌, if◌then◌else◌, nat_le, nat_lt, List, [], ◌∷◌, ◌++◌, length, map, filter, count_by, append_assoc, refl, sym, ap, ◌∙◌, true≢false, arith}
use Rattle.std.specs.List.{list_all, list_any}
use Rattle.std.proofs.lemmas.Bool.{and_parts, and_from, or_cases, or_left, or_right, eqb-true}
use Rattle.std.proofs.lemmas.Bool.Decides.{nat_tests}
use Rattle.std.proofs.lemmas.List.Sums.{length-filter}
use Rattle.session_model.specs.PlainSession.{has}
use Rattle.session_state.specs.SoundTest.{rise}

module _ {X : Type 0} where
  -- of what passes a test all is kept
  filter_kept : (test keeps : X → Bool) (xs : List X) → ((x : X) → test x ≡ true → keeps x ≡ true) → filter test (filter keeps xs) ≡ filter test xs
  filter_kept test keeps [] all = refl
  filter_kept test keeps (x ∷ xs) all = by (keeps x) (test x) refl refl (filter_kept test keeps xs all)
    where
      by : (k t : Bool) → keeps x ≡ k → test x ≡ t → filter test (filter keeps xs) ≡ filter test xs →
          filter test (if k then x ∷ filter keeps xs else filter keeps xs) ≡ (if test x then x ∷ filter test xs else filter test xs)
      by true t is_k is_t rest = ap (λ l. if test x then x ∷ l else l) rest
      by false false is_k is_t rest = rest ∙ sym (ap (λ b. if b then x ∷ filter test xs else filter test xs) is_t)
      by false true is_k is_t rest = absurd (true≢false (sym (all x is_t) ∙ is_k))

  pub count_kept : (test keeps : X → Bool) (xs : List X) → ((x : X) → test x ≡ true → keeps x ≡ true) → count_by test (filter keeps xs) ≡ count_by test xs
  count_kept test keeps xs all = sym (length-filter test (filter keeps xs)) ∙ ap length (filter_kept test keeps xs all) ∙ length-filter test xs

  pub all_filtered : (test keeps : X → Bool) (xs : List X) → list_all test xs ≡ true → list_all test (filter keeps xs) ≡ true
  all_filtered test keeps [] all = refl
  all_filtered test keeps (x ∷ xs) all =
      let parts = and_parts (test x) (list_all test xs) all in
      by (keeps x) parts.0 (all_filtered test keeps xs parts.1)
    where
      by : (k : Bool) → test x ≡ true → list_all test (filter keeps xs) ≡ true → list_all test (if k then x ∷ filter keeps xs else filter keeps xs) ≡ true
      by true passes rest = and_from (test x) (list_all test (filter keeps xs)) passes rest
      by false passes rest = rest

  pub all_both : (a b c : X → Bool) (xs : List X) → ((x : X) → a x ≡ true → b x ≡ true → c x ≡ true) → list_all a xs ≡ true → list_all b xs ≡ true → list_all c xs ≡ true
  all_both a b c [] each all_a all_b = refl
  all_both a b c (x ∷ xs) each all_a all_b =
      let parts_a = and_parts (a x) (list_all a xs) all_a in
      let parts_b = and_parts (b x) (list_all b xs) all_b in
      and_from (c x) (list_all c xs) (each x parts_a.0 parts_b.0) (all_both a b c xs each parts_a.1 parts_b.1)

  pub all_weaker : (a c : X → Bool) (xs : List X) → ((x : X) → a x ≡ true → c x ≡ true) → list_all a xs ≡ true → list_all c xs ≡ true
  all_weaker a c xs each all = all_both a a c xs (λ x one other. each x one) all all

  -- what holds of each element at its place holds of all
  pub all_at : (test : X → Bool) (front xs : List X) → ((before after : List X) (x : X) → front ++ xs ≡ before ++ x ∷ after → test x ≡ true) → list_all test xs ≡ true
  all_at test front [] each = refl
  all_at test front (x ∷ xs) each =
      and_from (test x) (list_all test xs) (each front xs x refl)
      (all_at test (front ++ x ∷ []) xs (λ before after y e. each before after y (sym (append_assoc front (x ∷ []) xs) ∙ e)))

  pub any_at : (test : X → Bool) (before after : List X) (x : X) → test x ≡ true → list_any test (before ++ x ∷ after) ≡ true
  any_at test [] after x passes = or_left (test x) (list_any test after) passes
  any_at test (y ∷ before) after x passes = or_right (test y) (list_any test (before ++ x ∷ after)) (any_at test before after x passes)

  -- each element is alike to one of them, as it is to itself
  pub all_alike : (alike : X → X → Bool) (xs : List X) → ((x : X) → alike x x ≡ true) → list_all (λ x. list_any (alike x) xs) xs ≡ true
  all_alike alike xs own = all_at (λ x. list_any (alike x) xs) [] xs (λ before after x e. ap (list_any (alike x)) e ∙ any_at (alike x) before after x (own x))

-- a number that passes and is there
pub any_has : (test : ℕ → Bool) (xs : List ℕ) (n : ℕ) → has xs n ≡ true → test n ≡ true → list_any test xs ≡ true
any_has test [] n there passes = absurd (true≢false (sym there))
any_has test (x ∷ xs) n there passes = by (or_cases (x == n) (has xs n) there) (λ later. any_has test xs n later passes)
  where
    by : ((x == n) ≡ true) ⊎ (has xs n ≡ true) → (has xs n ≡ true → list_any test xs ≡ true) → (test x || list_any test xs) ≡ true
    by (inl same) rest = or_left (test x) (list_any test xs) (ap test (eqb-true x n same) ∙ passes)
    by (inr later) rest = or_right (test x) (list_any test xs) (rest later)

-- ---- numbers that ascend

below : (low high n : ℕ) → low ≤ high → nat_le high n ≡ true → nat_le low n ≡ true
below low high n less h = grind (arith, nat_tests)

pub rise_lower : (low high next : ℕ) (ns : List ℕ) → low ≤ high → rise high next ns ≡ true → rise low next ns ≡ true
rise_lower low high next [] less up = refl
rise_lower low high next (n ∷ ns) less up =
    let parts = and_parts (nat_le high n) (nat_lt n next && rise (n + 1) next ns) up in
    and_from (nat_le low n) (nat_lt n next && rise (n + 1) next ns) (below low high n less parts.0) parts.1

pub rise_filtered : {X : Type 0} (number : X → ℕ) (keeps : X → Bool) (xs : List X) (low next : ℕ) → rise low next (map number xs) ≡ true →
    rise low next (map number (filter keeps xs)) ≡ true
rise_filtered number keeps [] low next up = refl
rise_filtered number keeps (x ∷ xs) low next up =
    let parts = and_parts (nat_le low (number x)) (nat_lt (number x) next && rise (number x + 1) next (map number xs)) up in
    let more = and_parts (nat_lt (number x) next) (rise (number x + 1) next (map number xs)) parts.1 in
    by (keeps x) parts.0 more.0 (rise_filtered number keeps xs (number x + 1) next more.1)
  where
    at_most : (a b : ℕ) → nat_le a b ≡ true → a ≤ b + 1
    at_most a b h = grind (arith, nat_tests)

    by : (k : Bool) → nat_le low (number x) ≡ true → nat_lt (number x) next ≡ true → rise (number x + 1) next (map number (filter keeps xs)) ≡ true →
        rise low next (map number (if k then x ∷ filter keeps xs else filter keeps xs)) ≡ true
    by true first less rest =
        and_from (nat_le low (number x)) (nat_lt (number x) next && rise (number x + 1) next (map number (filter keeps xs))) first
        (and_from (nat_lt (number x) next) (rise (number x + 1) next (map number (filter keeps xs))) less rest)
    by false first less rest = rise_lower low (number x + 1) next (map number (filter keeps xs)) (at_most low (number x) first) rest
