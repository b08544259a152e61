-- What is done to tracks that are in order leaves them in order.
use Rattle.std.proofs.Common.{◌≡◌, ◌⊎◌, inl, inr, ℕ, zero, suc, ◌+◌, ◌-◌, ◌≤◌, ◌<◌, Bool, true, false, ◌&&◌, ◌==◌, if◌then◌else◌, nat_le, nat_lt, List, [], ◌∷◌, ◌++◌, filter, refl, sym, ap, ◌∙◌, arith}
use Rattle.std.proofs.lemmas.Bool.{and_parts, cases_lt, or_cases, leb-true, ltb-true, eqb-true}
use Rattle.std.proofs.lemmas.List.Folds.{list_any-append}
use Rattle.session_model.specs.PlainSession.{left_of}
use Rattle.session_model.specs.Acting.{numbers_from}
use Rattle.session_model.specs.PlainSession.{has}
use Rattle.seq_tracks.specs.PlainTracks.{PlainTracks, has_room_for, in_use}
use Rattle.seq_tracks.specs.InOrder.{InOrder, ascend}
use Rattle.seq_tracks.specs.ListLaws.{ascend_between, ascend_cons, has-from}
use Rattle.seq_tracks.specs.RunLaws.{run_done, run_next}
use Rattle.seq_tracks.specs.Changed.{acked_tracks, complete_with, done_tracks, issued_tracks, passed_tracks, received_tracks, those_between, with_done}

-- some of a run ascend
ascend-filter : (test : ℕ → Bool) (above last start count : ℕ) → above < start → start + count ≤ last + 1 →
    ascend above last (filter test (numbers_from start count)) ≡ true
ascend-filter test above last start zero higher within = refl
ascend-filter test above last start (suc count) higher within =
    by (test start) (ascend-filter test start last (start + 1) count (omega arith) (omega arith))
    (ascend-filter test above last (start + 1) count (omega arith) (omega arith))
  where
    by : (b : Bool) → ascend start last (filter test (numbers_from (start + 1) count)) ≡ true →
        ascend above last (filter test (numbers_from (start + 1) count)) ≡ true →
        ascend above last (if b then start ∷ filter test (numbers_from (start + 1) count) else filter test (numbers_from (start + 1) count)) ≡ true
    by true up low = ascend_cons above last start (filter test (numbers_from (start + 1) count)) higher (omega arith) up
    by false up low = low

-- those between two numbers ascend behind the first one, which isn't among them
between_ascends : (complete received : ℕ) (done : List ℕ) → has done (complete + 1) ≡ false →
    ascend (complete + 1) received (those_between complete received done) ≡ true
between_ascends complete received done next = by (received - complete) refl
  where
    by : (k : ℕ) → received - complete ≡ k → ascend (complete + 1) received (filter (has done) (numbers_from (complete + 1) k)) ≡ true
    by zero e = refl
    by (suc k) e =
        let rest = filter (has done) (numbers_from (complete + 1 + 1) k) in
        ap (λ b. ascend (complete + 1) received (if b then (complete + 1) ∷ rest else rest)) next
        ∙ ascend-filter (has done) (complete + 1) received (complete + 1 + 1) k (omega arith) (omega arith)

-- none of these is past a number
abbrev AreWithin : ℕ → List ℕ → Type 0
AreWithin last ns = (n : ℕ) → has ns n ≡ true → n ≤ last

complete_within : (t : PlainTracks) (received : ℕ) (more : List ℕ) → InOrder t → t.received ≤ received → AreWithin received more →
    complete_with t.complete (t.done ++ more) ≤ received
complete_within t received more h from range = by (cases_lt received (complete_with t.complete (t.done ++ more)))
  where
    by : (received < complete_with t.complete (t.done ++ more)) ⊎ (complete_with t.complete (t.done ++ more) ≤ received) →
        complete_with t.complete (t.done ++ more) ≤ received
    by (inr within) = within
    by (inl past) =
        let complete = complete_with t.complete (t.done ++ more) in
        let low = h.complete in
        let is : has (t.done ++ more) complete ≡ true = run_done t.complete (t.done ++ more) complete (omega arith) (omega arith) in
        one (or_cases (has t.done complete) (has more complete) (sym (list_any-append (λ (d : ℕ). d == complete) t.done more) ∙ is))
      where
        one : (has t.done (complete_with t.complete (t.done ++ more)) ≡ true) ⊎ (has more (complete_with t.complete (t.done ++ more)) ≡ true) →
            complete_with t.complete (t.done ++ more) ≤ received
        one (inl old) =
            let between = ascend_between (t.complete + 1) t.received t.done (complete_with t.complete (t.done ++ more)) h.done old in
            let within = between.1 in
            omega arith
        one (inr new) = range (complete_with t.complete (t.done ++ more)) new

-- with more done, up to what is received
with_done_in_order : (t : PlainTracks) (received : ℕ) (more : List ℕ) → InOrder t → t.received ≤ received → received ≤ t.issued2 →
    AreWithin received more → InOrder (with_done received more t)
with_done_in_order t received more h from to range =
    let window = h.window in
    record {
      acked = h.acked;
      complete = complete_within t received more h from range;
      received = to;
      last1 = h.last1;
      last2 = h.last2;
      window = omega arith;
      done = between_ascends (complete_with t.complete (t.done ++ more)) received (t.done ++ more) (run_next t.complete (t.done ++ more));
    }

-- a run ends before its last
run_within : (start count last : ℕ) → start + count ≤ last + 1 → AreWithin last (numbers_from start count)
run_within start count last to n is =
    let parts = and_parts (nat_le start n) (nat_lt n (start + count)) (sym (has-from start count n) ∙ is) in
    let below : n < start + count = ltb-true n (start + count) parts.1 in
    omega arith

-- ---- each change

pub acked_in_order : (t : PlainTracks) (number : ℕ) → InOrder t → t.acked < number → number ≤ t.issued1 → InOrder (acked_tracks number t)
acked_in_order t number h above to =
    let window = h.window in
    record { acked = to; complete = h.complete; received = h.received; last1 = h.last1; last2 = h.last2; window = omega arith; done = h.done }

pub received_in_order : (t : PlainTracks) (number : ℕ) → InOrder t → t.received < number → number ≤ t.issued2 → InOrder (received_tracks number t)
received_in_order t number h above to =
    with_done_in_order t number (numbers_from (t.received + 1) (number - (t.received + 1))) h (omega arith) to
    (run_within (t.received + 1) (number - (t.received + 1)) number (omega arith))

pub done_in_order : (t : PlainTracks) (number : ℕ) → InOrder t → number ≤ t.received → InOrder (done_tracks number t)
done_in_order t number h within = with_done_in_order t t.received (number ∷ []) h (omega arith) h.received one
  where
    one : AreWithin t.received (number ∷ [])
    one n is = by (or_cases (number == n) false is)
      where
        by : ((number == n) ≡ true) ⊎ (false ≡ true) → n ≤ t.received
        by (inl same) = let e = eqb-true number n same in omega arith
        by (inr other) = absurd cc

pub passed_in_order : (t : PlainTracks) (track number : ℕ) → InOrder t → (if track == 1 then t.acked else t.received) < number →
    number ≤ (if track == 1 then t.issued1 else t.issued2) → InOrder (passed_tracks track number t)
passed_in_order t track number h = by (track == 1)
  where
    by : (one : Bool) → (if one then t.acked else t.received) < number → number ≤ (if one then t.issued1 else t.issued2) →
        InOrder (if one then acked_tracks number t else with_done number (numbers_from (t.received + 1) (number - t.received)) t)
    by true above to = acked_in_order t number h above to
    by false above to =
        with_done_in_order t number (numbers_from (t.received + 1) (number - t.received)) h (omega arith) to
        (run_within (t.received + 1) (number - t.received) number (omega arith))

pub issued_in_order : (t : PlainTracks) (count1 count2 : ℕ) → InOrder t → has_room_for t count1 count2 ≡ true → InOrder (issued_tracks count1 count2 t)
issued_in_order t count1 count2 h room =
    let left2 = nat_le count2 (left_of t.issued2) in
    let p = and_parts (nat_le (in_use t + (count1 + count2)) 2048) (nat_le count1 (left_of t.issued1) && left2) room in
    let q = and_parts (nat_le count1 (left_of t.issued1)) left2 p.1 in
    let used : in_use t + (count1 + count2) ≤ 2048 = leb-true (in_use t + (count1 + count2)) 2048 p.0 in
    let one : count1 ≤ left_of t.issued1 = leb-true count1 (left_of t.issued1) q.0 in
    let two : count2 ≤ left_of t.issued2 = leb-true count2 (left_of t.issued2) q.1 in
    let acked = h.acked in
    let complete = h.complete in
    let received = h.received in
    let last1 = h.last1 in
    let last2 = h.last2 in
    record {
      acked = omega arith;
      complete = h.complete;
      received = omega arith;
      last1 = omega arith;
      last2 = omega arith;
      window = omega arith;
      done = h.done;
    }
