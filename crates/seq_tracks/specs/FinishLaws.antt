-- What each change finishes: exactly the old ones and the new ones are done afterwards.
use Rattle.std.proofs.Common.{◌≡◌, ℕ, ◌+◌, ◌-◌, ◌≤◌, ◌<◌, Bool, true, false, ◌&&◌, ◌||◌, ◌==◌, nat_le, nat_lt, [], ◌∷◌, refl, ap, ◌∙◌, arith}
use Rattle.std.proofs.lemmas.Bool.{lt-leb, or_from}
use Rattle.std.proofs.lemmas.Bool.Decides.{nat_tests}
use Rattle.session_model.specs.Acting.{numbers_from}
use Rattle.session_model.specs.PlainSession.{has}
use Rattle.seq_tracks.specs.PlainTracks.{PlainTracks, is_done}
use Rattle.seq_tracks.specs.InOrder.{InOrder}
use Rattle.seq_tracks.specs.Changed.{with_done, received_tracks, done_tracks, passed_tracks}
use Rattle.seq_tracks.specs.ListLaws.{has-from, ascend_not_past}
use Rattle.seq_tracks.specs.RunLaws.{done_with}

-- none past what is received is done
past_received : (t : PlainTracks) (n : ℕ) → InOrder t → t.received < n → is_done t n ≡ false
past_received t n h past =
    let complete = h.complete in
    or_from (nat_le n t.complete) (has t.done n) (lt-leb n t.complete (omega arith)) (ascend_not_past (t.complete + 1) t.received t.done n h.done past)

-- a new mark, with so many from the old one on done
finished_from : (t : PlainTracks) (received count n : ℕ) → InOrder t → t.received + count ≤ received →
    is_done (with_done received (numbers_from (t.received + 1) count) t) n ≡ (is_done t n || (nat_lt t.received n && nat_le n (t.received + count)))
finished_from t received count n h within =
    let new : has (numbers_from (t.received + 1) count) n ≡ (nat_lt t.received n && nat_le n (t.received + count)) =
    has-from (t.received + 1) count n ∙ grind (arith, nat_tests) in
    let none : received < n → (is_done t n || has (numbers_from (t.received + 1) count) n) ≡ false =
    λ past. or_from (is_done t n) (has (numbers_from (t.received + 1) count) n) (past_received t n h (omega arith)) (new ∙ grind (arith, nat_tests)) in
    done_with t received (numbers_from (t.received + 1) count) n none ∙ ap (λ b. is_done t n || b) new

pub finished-received : (t : PlainTracks) (seq n : ℕ) → InOrder t → t.received < seq →
    is_done (received_tracks seq t) n ≡ (is_done t n || (nat_lt t.received n && nat_lt n seq))
finished-received t seq n h above =
    let count = seq - (t.received + 1) in
    let to : (nat_lt t.received n && nat_le n (t.received + count)) ≡ (nat_lt t.received n && nat_lt n seq) = grind (arith, nat_tests) in
    finished_from t seq count n h (omega arith) ∙ ap (λ b. is_done t n || b) to

pub finished-passed : (t : PlainTracks) (seq n : ℕ) → InOrder t → t.received < seq →
    is_done (passed_tracks 2 seq t) n ≡ (is_done t n || (nat_lt t.received n && nat_le n seq))
finished-passed t seq n h above =
    let count = seq - t.received in
    let to : t.received + count ≡ seq = omega arith in
    finished_from t seq count n h (omega arith) ∙ ap (λ k. is_done t n || (nat_lt t.received n && nat_le n k)) to

pub finished-done : (t : PlainTracks) (seq n : ℕ) → InOrder t → seq ≤ t.received → is_done (done_tracks seq t) n ≡ (is_done t n || (seq == n))
finished-done t seq n h within =
    done_with t t.received (seq ∷ []) n (λ past. or_from (is_done t n) (has (seq ∷ []) n) (past_received t n h past) (grind (arith, nat_tests)))
    ∙ ap (λ b. is_done t n || b) (none (seq == n))
  where
    none : (b : Bool) → (b || false) ≡ b
    none true = refl
    none false = refl
