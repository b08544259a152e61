-- Runs of numbers of which some are tested.
use Rattle.std.proofs.Common.{◌≡◌, ◌⊎◌, inl, inr, ℕ, zero, suc, ◌+◌, ◌-◌, ◌^◌, ◌≤◌, ◌<◌, Bool, true, false, ◌||◌, ◌&&◌, ◌==◌, if◌then◌else◌, nat_le, nat_lt, min, ◌∷◌, not, refl, sym, ap, ◌∙◌, arith}
use Rattle.std.specs.List.{list_any}
use Rattle.std.proofs.lemmas.Bool.{cases_lt}
use Rattle.std.proofs.lemmas.Bool.Decides.{nat_tests}
use Rattle.session_model.specs.Acting.{numbers_from}
use Rattle.seq_tracks.specs.PlainTracks.{PlainTracks, is_done, is_unfinished}
use Rattle.seq_tracks.specs.InOrder.{InOrder}

-- the first of those up to an end, and the others
pub from-first : (number end : ℕ) → number < end → numbers_from number (end - number) ≡ number ∷ numbers_from (number + 1) (end - (number + 1))
from-first number end less =
    let more : end - number ≡ suc (end - (number + 1)) = omega arith in
    ap (numbers_from number) more

pub any_from : (test : ℕ → Bool) (number end : ℕ) → number < end →
    list_any test (numbers_from number (end - number)) ≡ (test number || list_any test (numbers_from (number + 1) (end - (number + 1))))
any_from test number end less = ap (list_any test) (from-first number end less)

-- none of those passes that none passes from a limit on
none_passes : (test : ℕ → Bool) (limit first count : ℕ) → ((n : ℕ) → limit ≤ n → test n ≡ false) → limit ≤ first → list_any test (numbers_from first count) ≡ false
none_passes test limit first zero none from = refl
none_passes test limit first (suc count) none from =
    ap (λ b. b || list_any test (numbers_from (first + 1) count)) (none first from) ∙ none_passes test limit (first + 1) count none (omega arith)

-- so those from the limit on needn't be looked at
pub any_below : (test : ℕ → Bool) (limit first count : ℕ) → ((n : ℕ) → limit ≤ n → test n ≡ false) →
    list_any test (numbers_from first (min (first + count) limit - first)) ≡ list_any test (numbers_from first count)
any_below test limit first zero none = let no : min (first + 0) limit - first ≡ 0 = omega arith in ap (λ k. list_any test (numbers_from first k)) no
any_below test limit first (suc count) none = by (cases_lt first limit) (any_below test limit (first + 1) count none)
  where
    by : (first < limit) ⊎ (limit ≤ first) →
        list_any test (numbers_from (first + 1) (min (first + 1 + count) limit - (first + 1))) ≡ list_any test (numbers_from (first + 1) count) →
        list_any test (numbers_from first (min (first + suc count) limit - first)) ≡ list_any test (numbers_from first (suc count))
    by (inl less) rest =
        let more : min (first + suc count) limit - first ≡ suc (min (first + 1 + count) limit - (first + 1)) = omega arith in
        ap (λ k. list_any test (numbers_from first k)) more ∙ ap (λ b. test first || b) rest
    by (inr not_less) rest =
        let no : min (first + suc count) limit - first ≡ 0 = omega arith in
        ap (λ k. list_any test (numbers_from first k)) no ∙ sym (none_passes test limit first (suc count) none not_less)

-- no number is unfinished that a track can't give
pub none_unfinished : (t : PlainTracks) (track n : ℕ) → InOrder t → 2 ^ 64 - 1 ≤ n → is_unfinished t track n ≡ false
none_unfinished t track n order from = by (track == 1) (track == 2) first second
  where
    first : (nat_lt t.acked n && nat_le n t.issued1) ≡ false
    first = let last = order.last1 in grind (arith, nat_tests)

    second : (nat_le n t.issued2 && not (is_done t n)) ≡ false
    second = let last = order.last2 in grind (arith, nat_tests)

    by : (one two : Bool) → (nat_lt t.acked n && nat_le n t.issued1) ≡ false → (nat_le n t.issued2 && not (is_done t n)) ≡ false →
        (if one then nat_lt t.acked n && nat_le n t.issued1 else if two then nat_le n t.issued2 && not (is_done t n) else false) ≡ false
    by true two e1 e2 = e1
    by false true e1 e2 = e2
    by false false e1 e2 = refl
