-- What the test of a session tells.
use Rattle.std.proofs.Common.{◌≡◌, ◌⊎◌, inl, inr, ℕ, zero, suc, ◌+◌, ◌-◌, ◌≤◌, ◌<◌, Bool, true, false, not, ◌&&◌, ◌||◌, if◌then◌else◌, nat_le, nat_lt, max, List, [], ◌∷◌, length, filter, refl, sym, ap, ◌∙◌, true≢false, arith}
use Rattle.std.specs.List.{list_all, list_any}
use Rattle.std.proofs.lemmas.Bool.{and_parts, and_from, or_cases}
use Rattle.std.proofs.lemmas.Bool.Decides.{nat_tests}
use Rattle.session_model.specs.Acting.{numbers_from}
use Rattle.session_model.specs.PlainSession.{has}
use Rattle.seq_tracks.specs.PlainTracks.{PlainTracks, in_use, is_unfinished1, is_unfinished2}
use Rattle.session_state.specs.declared.batch.Batch.{Batch}
use Rattle.session_state.specs.FactLaws.{facts_from_test}
use Rattle.session_state.specs.FilterLaws.{kept_cons}
use Rattle.topic_model.specs.Profile.{whole}
use Rattle.seq_tracks.specs.InOrder.{InOrder}
use Rattle.session_state.specs.declared.change.Effect.{Effect}
use Rattle.session_state.specs.KeptSession.{KeptSession}
use Rattle.session_state.specs.TidyLaws.{tidied_is_tidy}
use Rattle.session_state.specs.BatchEffectLaws.{facts_changed}
use Rattle.session_state.specs.KeptActing.{has_unfinished, kept_changed, numbers1_of, numbers2_of, with_effect}
use Rattle.session_state.specs.KeptFits.{is_window, kept_suits, kept_within, session_fits, subs_within}
use Rattle.session_state.specs.Sound.{IsSound, IsTidy}
use Rattle.session_state.specs.SoundTest.{are_issued, has_facts, is_needed, is_sound, is_tidy, is_wanted}

-- a filter leaves what all passes
pub all_stay : {X : Type 0} (test : X → Bool) (xs : List X) → list_all test xs ≡ true → filter test xs ≡ xs
all_stay test [] all = refl
all_stay test (x ∷ xs) all =
    let parts = and_parts (test x) (list_all test xs) all in
    ap (λ b. if b then x ∷ filter test xs else filter test xs) parts.0 ∙ ap (λ l. x ∷ l) (all_stay test xs parts.1)

pub tidy_from_test : (m : KeptSession) → is_tidy m ≡ true → IsTidy m
tidy_from_test m is =
    let parts = and_parts (list_all (has_unfinished m.tracks) m.batches) (list_all (is_needed m.subs m.batches) m.versions && list_all (is_wanted m.versions) m.subs) is in
    let more = and_parts (list_all (is_needed m.subs m.batches) m.versions) (list_all (is_wanted m.versions) m.subs) parts.1 in
    record {
      batches = all_stay (has_unfinished m.tracks) m.batches parts.0;
      versions = all_stay (is_needed m.subs m.batches) m.versions more.0;
      subs = all_stay (is_wanted m.versions) m.subs more.1;
    }

pub sound_from_test : (m : KeptSession) → is_sound m ≡ true → IsSound m
sound_from_test m is =
    let parts = and_parts (kept_within whole m) (is_tidy m && has_facts m) is in
    record { tidy = tidy_from_test m (and_parts (is_tidy m) (has_facts m) parts.1).0; within = parts.0; facts = (and_parts (is_tidy m) (has_facts m) parts.1).1 }

-- a change that fits leaves what holds of every session
pub sound_changed : (m : KeptSession) (effect : Effect) → IsSound m → InOrder m.tracks → session_fits whole m effect ≡ true → IsSound (kept_changed effect m)
sound_changed m effect sound order fits =
    let parts = and_parts (kept_suits m effect) (kept_within whole (kept_changed effect m)) fits in
    record { tidy = tidied_is_tidy (with_effect effect m); within = parts.1; facts = facts_changed m effect order parts.0 sound.facts }

-- ---- how much is kept

-- one of a run that passes
some_of : (test : ℕ → Bool) (first count : ℕ) → list_any test (numbers_from first count) ≡ true → (n : ℕ) × (first ≤ n) × (n < first + count) × (test n ≡ true)
some_of test first zero some = absurd (true≢false (sym some))
some_of test first (suc count) some = by (or_cases (test first) (list_any test (numbers_from (first + 1) count)) some) (some_of test (first + 1) count)
  where
    by : (test first ≡ true) ⊎ (list_any test (numbers_from (first + 1) count) ≡ true) →
        (list_any test (numbers_from (first + 1) count) ≡ true → (n : ℕ) × (first + 1 ≤ n) × (n < first + 1 + count) × (test n ≡ true)) →
        (n : ℕ) × (first ≤ n) × (n < first + suc count) × (test n ≡ true)
    by (inl here) rest = (first, omega arith, omega arith, here)
    by (inr later) rest =
        let r = rest later in
        let from = r.1 in
        let to = r.2 in
        (r.0, omega arith, omega arith, r.3)

above1 : (t : PlainTracks) (n : ℕ) → is_unfinished1 t n ≡ true → t.acked < n
above1 t n is = let more = (and_parts (nat_lt t.acked n) (nat_le n t.issued1) is).0 in grind (arith, nat_tests)

above2 : (t : PlainTracks) (n : ℕ) → is_unfinished2 t n ≡ true → t.complete < n
above2 t n is = by (nat_le n t.complete) refl (and_parts (nat_le n t.issued2) (not (nat_le n t.complete || has t.done n)) is).1
  where
    by : (b : Bool) → nat_le n t.complete ≡ b → not (b || has t.done n) ≡ true → t.complete < n
    by true is rest = absurd (true≢false (sym rest))
    by false is rest = grind (arith, nat_tests)

-- what is left behind two numbers of each track
abbrev left_behind : PlainTracks → ℕ → ℕ → ℕ
left_behind t low1 low2 = (t.issued1 + 1 - max low1 (t.acked + 1)) + (t.issued2 + 1 - max low2 (t.complete + 1))

-- each batch with an unfinished number takes one of these
few_from : (t : PlainTracks) (low1 low2 : ℕ) (bs : List Batch) → list_all (has_unfinished t) bs ≡ true → are_issued low1 low2 t.issued1 t.issued2 bs ≡ true →
    length bs ≤ left_behind t low1 low2
few_from t low1 low2 [] all up = omega arith
few_from t low1 low2 (b ∷ bs) all up =
    let rest = are_issued (b.first1 + b.count1) (b.first2 + b.count2) t.issued1 t.issued2 bs in
    let to1 = nat_le (b.first1 + b.count1) (t.issued1 + 1) in
    let to2 = nat_le (b.first2 + b.count2) (t.issued2 + 1) in
    let p = and_parts (nat_lt b.from b.to) ((nat_le low1 b.first1 && to1) && ((nat_le low2 b.first2 && to2) && rest)) up in
    let q = and_parts (nat_le low1 b.first1 && to1) ((nat_le low2 b.first2 && to2) && rest) p.1 in
    let r = and_parts (nat_le low2 b.first2 && to2) rest q.1 in
    let one = and_parts (nat_le low1 b.first1) to1 q.0 in
    let two = and_parts (nat_le low2 b.first2) to2 r.0 in
    let parts = and_parts (has_unfinished t b) (list_all (has_unfinished t) bs) all in
    by (or_cases (list_any (is_unfinished1 t) (numbers1_of b)) (list_any (is_unfinished2 t) (numbers2_of b)) parts.0)
    (number low1 b.first1 one.0) (number (b.first1 + b.count1) (t.issued1 + 1) one.1) (number low2 b.first2 two.0) (number (b.first2 + b.count2) (t.issued2 + 1) two.1)
    (few_from t (b.first1 + b.count1) (b.first2 + b.count2) bs parts.1 r.1)
  where
    number : (a c : ℕ) → nat_le a c ≡ true → a ≤ c
    number a c h = grind (arith, nat_tests)

    by : (list_any (is_unfinished1 t) (numbers1_of b) ≡ true) ⊎ (list_any (is_unfinished2 t) (numbers2_of b) ≡ true) →
        low1 ≤ b.first1 → b.first1 + b.count1 ≤ t.issued1 + 1 → low2 ≤ b.first2 → b.first2 + b.count2 ≤ t.issued2 + 1 →
        length bs ≤ left_behind t (b.first1 + b.count1) (b.first2 + b.count2) → suc (length bs) ≤ left_behind t low1 low2
    by (inl some) l1 h1 l2 h2 rest =
        let n = some_of (is_unfinished1 t) b.first1 b.count1 some in
        let from = n.1 in
        let to = n.2 in
        let above = above1 t n.0 n.3 in
        omega arith
    by (inr some) l1 h1 l2 h2 rest =
        let n = some_of (is_unfinished2 t) b.first2 b.count2 some in
        let from = n.1 in
        let to = n.2 in
        let above = above2 t n.0 n.3 in
        omega arith

-- a sound session has no more batches than its window
pub few_batches : (m : KeptSession) → is_sound m ≡ true → length m.batches ≤ m.window
few_batches m is =
    let parts = and_parts (kept_within whole m) (is_tidy m && has_facts m) is in
    let more = and_parts (is_tidy m) (has_facts m) parts.1 in
    let unfinished = (and_parts (list_all (has_unfinished m.tracks) m.batches)
    (list_all (is_needed m.subs m.batches) m.versions && list_all (is_wanted m.versions) m.subs) more.0).0 in
    let few = few_from m.tracks 1 1 m.batches unfinished (facts_from_test m more.1).issued in
    let p = and_parts (nat_le (length m.client) 256) (is_window whole m.window && (subs_within whole m.subs && nat_le (in_use m.tracks) m.window)) parts.0 in
    let q = and_parts (is_window whole m.window) (subs_within whole m.subs && nat_le (in_use m.tracks) m.window) p.1 in
    let used : in_use m.tracks ≤ m.window = number (in_use m.tracks) m.window (and_parts (subs_within whole m.subs) (nat_le (in_use m.tracks) m.window) q.1).1 in
    omega arith
  where
    number : (a c : ℕ) → nat_le a c ≡ true → a ≤ c
    number a c h = grind (arith, nat_tests)

-- ---- what holds passes the test

all_from_stay : {X : Type 0} (test : X → Bool) (xs : List X) → filter test xs ≡ xs → list_all test xs ≡ true
all_from_stay test [] stay = refl
all_from_stay test (x ∷ xs) stay =
    let parts = kept_cons test x xs stay in
    and_from (test x) (list_all test xs) parts.0 (all_from_stay test xs parts.1)

pub test_from_sound : (m : KeptSession) → IsSound m → is_sound m ≡ true
test_from_sound m sound =
    and_from (kept_within whole m) (is_tidy m && has_facts m) sound.within
    (and_from (is_tidy m) (has_facts m)
    (and_from (list_all (has_unfinished m.tracks) m.batches) (list_all (is_needed m.subs m.batches) m.versions && list_all (is_wanted m.versions) m.subs)
    (all_from_stay (has_unfinished m.tracks) m.batches sound.tidy.batches)
    (and_from (list_all (is_needed m.subs m.batches) m.versions) (list_all (is_wanted m.versions) m.subs)
    (all_from_stay (is_needed m.subs m.batches) m.versions sound.tidy.versions) (all_from_stay (is_wanted m.versions) m.subs sound.tidy.subs)))
    sound.facts)

pub keeps_sound : (m : KeptSession) (effect : Effect) → InOrder m.tracks → is_sound m ≡ true → session_fits whole m effect ≡ true → is_sound (kept_changed effect m) ≡ true
keeps_sound m effect order is fits = test_from_sound (kept_changed effect m) (sound_changed m effect (sound_from_test m is) order fits)
