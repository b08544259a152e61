-- When tracks are those with more numbers done.
use Rattle.std.proofs.Common.{◌≡◌, ℕ, zero, suc, ◌+◌, ◌-◌, ◌≤◌, ◌<◌, Bool, true, false, if◌then◌else◌, List, ◌++◌, length, filter, true≢false, refl, sym, ap, ◌∙◌, arith}
use Rattle.session_model.specs.PlainSession.{done_from}
use Rattle.session_model.specs.Acting.{numbers_from}
use Rattle.session_model.specs.PlainSession.{has}
use Rattle.seq_tracks.specs.PlainTracks.{PlainTracks}
use Rattle.seq_tracks.specs.InOrder.{ascend}
use Rattle.seq_tracks.specs.Changed.{IsDoneUpTo, complete_with, with_these, with_done}
use Rattle.seq_tracks.specs.ListLaws.{filter-agree, ascend_lower, ascending_is}

-- so many are done from a number on, and the next one isn't
pub done_from_is : (done : List ℕ) (start more count : ℕ) → count ≤ more →
    ((n : ℕ) → start ≤ n → n < start + count → has done n ≡ true) → has done (start + count) ≡ false → done_from done start more ≡ count
done_from_is done start zero count few all next = omega arith
done_from_is done start (suc more) zero few all next = by (has done start) (ap (has done) same ∙ next)
  where
    same : start ≡ start + zero
    same = omega arith

    by : (b : Bool) → b ≡ false → (if b then 1 + done_from done (start + 1) more else 0) ≡ 0
    by true is = absurd (true≢false is)
    by false is = refl
done_from_is done start (suc more) (suc count) few all next =
    let same : start + 1 + count ≡ start + suc count = omega arith in
    by (has done start) (all start (omega arith) (omega arith))
    (done_from_is done (start + 1) more count (omega arith) (λ n from to. all n (omega arith) (omega arith)) (ap (has done) same ∙ next))
  where
    by : (b : Bool) → b ≡ true → done_from done (start + 1) more ≡ count → (if b then 1 + done_from done (start + 1) more else 0) ≡ suc count
    by true is rest = omega arith
    by false is rest = absurd (true≢false (sym is))

-- they are told by what is done and by their order
pub with_done_is : (t : PlainTracks) (received : ℕ) (more : List ℕ) (complete : ℕ) (done : List ℕ) →
    IsDoneUpTo t received (t.done ++ more) complete done →
    (record t { received = received; complete = complete; done = done }) ≡ with_done received more t
with_done_is t received more complete done h =
    let all = t.done ++ more in
    let low = h.low in
    let high = h.high in
    let behind : t.complete + 1 + (complete - t.complete) ≡ complete + 1 = omega arith in
    let run : done_from all (t.complete + 1) (length all) ≡ complete - t.complete =
    done_from_is all (t.complete + 1) (length all) (complete - t.complete) h.many (λ n from to. h.below n (omega arith) (omega arith)) (ap (has all) behind ∙ h.next) in
    let same : complete ≡ complete_with t.complete all = omega arith in
    let range : complete + (received - complete) ≡ received = omega arith in
    let up : ascend complete received done ≡ true = ascend_lower complete (complete + 1) received done (omega arith) h.ascends in
    let list : done ≡ filter (has done) (numbers_from (complete + 1) (received - complete)) =
    ascending_is complete (received - complete) done (ap (λ l. ascend complete l done) range ∙ up) in
    let agrees = filter-agree (has done) (has all) (complete + 1) (received - complete) (λ n from to. h.above n (omega arith) (omega arith)) in
    ap (λ (l : List ℕ). record t { received = received; complete = complete; done = l }) (list ∙ agrees) ∙ ap (λ (c : ℕ). with_these received all c t) same
