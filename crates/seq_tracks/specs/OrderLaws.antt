-- Order as facts and as a test.
use Rattle.std.proofs.Common.{◌≡◌, ◌+◌, ◌-◌, ◌^◌, ◌≤◌, ◌<◌, true, ◌&&◌, nat_le, nat_lt, length, arith}
use Rattle.std.proofs.lemmas.Bool.{and_parts, and_from, ltb-true, leb-true, le-leb, lt-ltb}
use Rattle.seq_tracks.specs.declared.marks.TheConstants.{WIDEST_WINDOW}
use Rattle.seq_tracks.specs.PlainTracks.{PlainTracks, in_use}
use Rattle.seq_tracks.specs.InOrder.{InOrder, are_in_order, ascend}
use Rattle.seq_tracks.specs.ListLaws.{ascend_short}

pub in_order-from_test : (t : PlainTracks) → are_in_order t ≡ true → InOrder t
in_order-from_test t test =
    let ascends = ascend (t.complete + 1) t.received t.done in
    let from_window = nat_le (in_use t) WIDEST_WINDOW && ascends in
    let from_last2 = nat_lt t.issued2 (2 ^ 64 - 1) && from_window in
    let from_last1 = nat_lt t.issued1 (2 ^ 64 - 1) && from_last2 in
    let from_received = nat_le t.received t.issued2 && from_last1 in
    let from_complete = nat_le t.complete t.received && from_received in
    let acked = and_parts (nat_le t.acked t.issued1) from_complete test in
    let complete = and_parts (nat_le t.complete t.received) from_received acked.1 in
    let received = and_parts (nat_le t.received t.issued2) from_last1 complete.1 in
    let last1 = and_parts (nat_lt t.issued1 (2 ^ 64 - 1)) from_last2 received.1 in
    let last2 = and_parts (nat_lt t.issued2 (2 ^ 64 - 1)) from_window last1.1 in
    let window = and_parts (nat_le (in_use t) WIDEST_WINDOW) ascends last2.1 in
    record {
      acked = leb-true t.acked t.issued1 acked.0;
      complete = leb-true t.complete t.received complete.0;
      received = leb-true t.received t.issued2 received.0;
      last1 = ltb-true t.issued1 (2 ^ 64 - 1) last1.0;
      last2 = ltb-true t.issued2 (2 ^ 64 - 1) last2.0;
      window = leb-true (in_use t) WIDEST_WINDOW window.0;
      done = window.1;
    }

pub test-from_in_order : (t : PlainTracks) → InOrder t → are_in_order t ≡ true
test-from_in_order t h =
    let ascends = ascend (t.complete + 1) t.received t.done in
    let from_window = nat_le (in_use t) WIDEST_WINDOW && ascends in
    let from_last2 = nat_lt t.issued2 (2 ^ 64 - 1) && from_window in
    let from_last1 = nat_lt t.issued1 (2 ^ 64 - 1) && from_last2 in
    let from_received = nat_le t.received t.issued2 && from_last1 in
    let from_complete = nat_le t.complete t.received && from_received in
    and_from (nat_le t.acked t.issued1) from_complete (le-leb t.acked t.issued1 h.acked)
    (and_from (nat_le t.complete t.received) from_received (le-leb t.complete t.received h.complete)
    (and_from (nat_le t.received t.issued2) from_last1 (le-leb t.received t.issued2 h.received)
    (and_from (nat_lt t.issued1 (2 ^ 64 - 1)) from_last2 (lt-ltb t.issued1 (2 ^ 64 - 1) h.last1)
    (and_from (nat_lt t.issued2 (2 ^ 64 - 1)) from_window (lt-ltb t.issued2 (2 ^ 64 - 1) h.last2)
    (and_from (nat_le (in_use t) WIDEST_WINDOW) ascends (le-leb (in_use t) WIDEST_WINDOW h.window) h.done)))))

-- fewer numbers are done out of order than track 2 has in use
pub few_done : (t : PlainTracks) → InOrder t → t.complete < t.received → length t.done < t.issued2 - t.complete
few_done t h some =
    let short : length t.done ≤ t.received - (t.complete + 1) = ascend_short (t.complete + 1) t.received t.done h.done in
    let received = h.received in
    omega arith
