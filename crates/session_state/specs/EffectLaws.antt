-- Each change by itself keeps the facts of a session.
use Rattle.std.proofs.Common.{◌≡◌, ◌⊎◌, inl, inr, ℕ, zero, suc, ◌+◌, ◌-◌, ◌≤◌, ◌<◌, Bool, true, false, not, ◌&&◌, ◌||◌, ◌==◌, if◌then◌else◌, nat_le, List, [], ◌∷◌, refl, sym, ap, ◌∙◌, true≢false, arith}
use Rattle.std.specs.List.{list_all}
use Rattle.std.proofs.lemmas.Bool.{and_parts, and_from, or_cases, or_right, or_parts}
use Rattle.std.proofs.lemmas.Bool.Decides.{nat_tests}
use Rattle.session_model.specs.Acting.{numbers_from}
use Rattle.session_model.specs.FitsSession.{is_between}
use Rattle.seq_tracks.specs.PlainTracks.{PlainTracks, is_done, is_unfinished1, is_unfinished2, mark_of, last_of}
use Rattle.seq_tracks.specs.InOrder.{InOrder}
use Rattle.seq_tracks.specs.Changed.{acked_tracks, received_tracks, done_tracks, passed_tracks, with_done}
use Rattle.seq_tracks.specs.FinishLaws.{finished-received, finished-passed, finished-done}
use Rattle.session_state.specs.declared.batch.Batch.{Batch}
use Rattle.session_state.specs.KeptSession.{KeptSession}
use Rattle.session_state.specs.SoundTest.{are_issued, each_lies1, each_lies2, lies_in_one1, lies_in_one2}
use Rattle.session_state.specs.FactLaws.{HasFacts}

-- ---- runs of numbers

pub all_run : (test : ℕ → Bool) (start count : ℕ) → ((n : ℕ) → start ≤ n → n < start + count → test n ≡ true) → list_all test (numbers_from start count) ≡ true
all_run test start zero each = refl
all_run test start (suc count) each =
    and_from (test start) (list_all test (numbers_from (start + 1) count)) (each start (omega arith) (omega arith))
    (all_run test (start + 1) count (λ n from to. each n (omega arith) (omega arith)))

pub run_all : (test : ℕ → Bool) (start count : ℕ) → list_all test (numbers_from start count) ≡ true → (n : ℕ) → start ≤ n → n < start + count → test n ≡ true
run_all test start zero all n from to = absurd (omega arith)
run_all test start (suc count) all n from to =
    let parts = and_parts (test start) (list_all test (numbers_from (start + 1) count)) all in
    by (cases start n) parts.0 (λ later. run_all test (start + 1) count parts.1 n later (omega arith))
  where
    cases : (a b : ℕ) → (a ≡ b) ⊎ ((a < b) ⊎ (b < a))
    cases zero zero = inl refl
    cases zero (suc b) = inr (inl (omega arith))
    cases (suc a) zero = inr (inr (omega arith))
    cases (suc a) (suc b) = up (cases a b)
      where
        up : (a ≡ b) ⊎ ((a < b) ⊎ (b < a)) → (suc a ≡ suc b) ⊎ ((suc a < suc b) ⊎ (suc b < suc a))
        up (inl same) = inl (ap suc same)
        up (inr (inl less)) = inr (inl (omega arith))
        up (inr (inr less)) = inr (inr (omega arith))

    by : (start ≡ n) ⊎ ((start < n) ⊎ (n < start)) → test start ≡ true → (start + 1 ≤ n → test n ≡ true) → test n ≡ true
    by (inl same) first rest = ap test (sym same) ∙ first
    by (inr (inl less)) first rest = rest (omega arith)
    by (inr (inr less)) first rest = absurd (omega arith)

-- each unfinished number of a track lies in one batch

pub lies_at1 : (t : PlainTracks) (bs : List Batch) → each_lies1 t bs ≡ true → (n : ℕ) → t.acked < n → n ≤ t.issued1 → lies_in_one1 bs n ≡ true
lies_at1 t bs all n above within =
    by (or_cases (not (is_unfinished1 t n)) (lies_in_one1 bs n)
    (run_all (λ (k : ℕ). not (is_unfinished1 t k) || lies_in_one1 bs k) (t.acked + 1) (t.issued1 - t.acked) all n (omega arith) (omega arith)))
  where
    unfinished : is_unfinished1 t n ≡ true
    unfinished = grind (arith, nat_tests)

    by : (not (is_unfinished1 t n) ≡ true) ⊎ (lies_in_one1 bs n ≡ true) → lies_in_one1 bs n ≡ true
    by (inl finished) = absurd (true≢false (sym finished ∙ ap not unfinished))
    by (inr lies) = lies

pub each_from1 : (t : PlainTracks) (bs : List Batch) → ((n : ℕ) → t.acked < n → n ≤ t.issued1 → lies_in_one1 bs n ≡ true) → each_lies1 t bs ≡ true
each_from1 t bs each =
    all_run (λ (k : ℕ). not (is_unfinished1 t k) || lies_in_one1 bs k) (t.acked + 1) (t.issued1 - t.acked)
    (λ n from to. or_right (not (is_unfinished1 t n)) (lies_in_one1 bs n) (each n (omega arith) (omega arith)))

pub lies_at2 : (t : PlainTracks) (bs : List Batch) → each_lies2 t bs ≡ true → (n : ℕ) → t.complete < n → n ≤ t.issued2 → is_done t n ≡ false → lies_in_one2 bs n ≡ true
lies_at2 t bs all n above within not_done =
    by (or_cases (not (is_unfinished2 t n)) (lies_in_one2 bs n)
    (run_all (λ (k : ℕ). not (is_unfinished2 t k) || lies_in_one2 bs k) (t.complete + 1) (t.issued2 - t.complete) all n (omega arith) (omega arith)))
  where
    given : nat_le n t.issued2 ≡ true
    given = grind (arith, nat_tests)

    unfinished : is_unfinished2 t n ≡ true
    unfinished = and_from (nat_le n t.issued2) (not (is_done t n)) given (ap not not_done)

    by : (not (is_unfinished2 t n) ≡ true) ⊎ (lies_in_one2 bs n ≡ true) → lies_in_one2 bs n ≡ true
    by (inl finished) = absurd (true≢false (sym finished ∙ ap not unfinished))
    by (inr lies) = lies

pub each_from2 : (t : PlainTracks) (bs : List Batch) → ((n : ℕ) → t.complete < n → n ≤ t.issued2 → is_done t n ≡ false → lies_in_one2 bs n ≡ true) → each_lies2 t bs ≡ true
each_from2 t bs each =
    all_run (λ (k : ℕ). not (is_unfinished2 t k) || lies_in_one2 bs k) (t.complete + 1) (t.issued2 - t.complete)
    (λ n from to. by n (is_done t n) refl (each n (omega arith) (omega arith)))
  where
    by : (n : ℕ) (d : Bool) → is_done t n ≡ d → (is_done t n ≡ false → lies_in_one2 bs n ≡ true) → (not (nat_le n t.issued2 && not (is_done t n)) || lies_in_one2 bs n) ≡ true
    by n true is lies =
        ap (λ d. not (nat_le n t.issued2 && not d) || lies_in_one2 bs n) is ∙ ap (λ a. not a || lies_in_one2 bs n) (none (nat_le n t.issued2))
      where
        none : (a : Bool) → (a && false) ≡ false
        none true = refl
        none false = refl
    by n false is lies = or_right (not (nat_le n t.issued2 && not (is_done t n))) (lies_in_one2 bs n) (lies is)

-- ---- tracks

-- with tracks that gave the same numbers
facts_tracks : (m : KeptSession) (t : PlainTracks) → t.issued1 ≡ m.tracks.issued1 → t.issued2 ≡ m.tracks.issued2 → each_lies1 t m.batches ≡ true → each_lies2 t m.batches ≡ true →
    HasFacts m → HasFacts (record m { tracks = t })
facts_tracks m t same1 same2 lies1 lies2 f =
    record {
      subs = f.subs;
      versions = f.versions;
      held = f.held;
      present = f.present;
      named = f.named;
      ended = f.ended;
      issued = ap (λ l. are_issued 1 1 l t.issued2 m.batches) same1 ∙ ap (λ l. are_issued 1 1 m.tracks.issued1 l m.batches) same2 ∙ f.issued;
      lies1 = lies1;
      lies2 = lies2;
    }

pub facts_acked : (m : KeptSession) (number : ℕ) → m.tracks.acked ≤ number → HasFacts m → HasFacts (record m { tracks = acked_tracks number m.tracks })
facts_acked m number further f =
    facts_tracks m (acked_tracks number m.tracks) refl refl
    (each_from1 (acked_tracks number m.tracks) m.batches (λ n above within. lies_at1 m.tracks m.batches f.lies1 n (omega arith) within)) f.lies2 f

-- more are done on track 2
facts_done : (m : KeptSession) (received : ℕ) (more : List ℕ) → ((n : ℕ) → is_done (with_done received more m.tracks) n ≡ false → is_done m.tracks n ≡ false) → HasFacts m →
    HasFacts (record m { tracks = with_done received more m.tracks })
facts_done m received more still f =
    let t = with_done received more m.tracks in
    let further : m.tracks.complete ≤ t.complete = omega arith in
    facts_tracks m t refl refl f.lies1
    (each_from2 t m.batches (λ n above within not_done. lies_at2 m.tracks m.batches f.lies2 n (omega arith) within (still n not_done))) f

not_before : (new old more : Bool) → new ≡ (old || more) → new ≡ false → old ≡ false
not_before new old more is none = (or_parts old more (sym is ∙ none)).0

pub facts_received : (m : KeptSession) (number : ℕ) → InOrder m.tracks → m.tracks.received < number → HasFacts m → HasFacts (record m { tracks = received_tracks number m.tracks })
facts_received m number order above f =
    facts_done m number (numbers_from (m.tracks.received + 1) (number - (m.tracks.received + 1)))
    (λ n none. not_before (is_done (received_tracks number m.tracks) n) (is_done m.tracks n) _ (finished-received m.tracks number n order above) none) f

pub facts_completed : (m : KeptSession) (number : ℕ) → InOrder m.tracks → number ≤ m.tracks.received → HasFacts m → HasFacts (record m { tracks = done_tracks number m.tracks })
facts_completed m number order within f =
    facts_done m m.tracks.received (number ∷ [])
    (λ n none. not_before (is_done (done_tracks number m.tracks) n) (is_done m.tracks n) _ (finished-done m.tracks number n order within) none) f

pub facts_passed : (m : KeptSession) (track number : ℕ) → InOrder m.tracks → is_between (mark_of m.tracks track) (last_of m.tracks track) number ≡ true → HasFacts m →
    HasFacts (record m { tracks = passed_tracks track number m.tracks })
facts_passed m track number order fits f = by (track == 1) fits
  where
    by : (one : Bool) → is_between (if one then m.tracks.acked else m.tracks.received) (if one then m.tracks.issued1 else m.tracks.issued2) number ≡ true →
        HasFacts (record m { tracks = if one then acked_tracks number m.tracks else with_done number (numbers_from (m.tracks.received + 1) (number - m.tracks.received)) m.tracks })
    by true fits = let above : m.tracks.acked ≤ number = grind (arith, nat_tests) in facts_acked m number above f
    by false fits =
        let above : m.tracks.received < number = grind (arith, nat_tests) in
        facts_done m number (numbers_from (m.tracks.received + 1) (number - m.tracks.received))
        (λ n none. not_before (is_done (passed_tracks 2 number m.tracks) n) (is_done m.tracks n) _ (finished-passed m.tracks number n order above) none) f
