-- When tracks are in order.
use Rattle.std.specs.Prelude.{ℕ, ◌+◌, ◌-◌, ◌^◌, ◌≤◌, ◌<◌, Bool, true, ◌&&◌, nat_le, nat_lt, IsTrue, List, [], ◌∷◌}
use Rattle.seq_tracks.specs.declared.marks.TheConstants.{WIDEST_WINDOW}
use Rattle.seq_tracks.specs.declared.marks.Marks.{Marks}
use Rattle.seq_tracks.specs.PlainTracks.{PlainTracks, in_use}

-- numbers that ascend, all above one number and none past another
abbrev pub ascend : ℕ → ℕ → List ℕ → Bool
ascend above last [] = true
ascend above last (n ∷ ns) = nat_lt above n && (nat_le n last && ascend n last ns)

-- No mark passes the last number of its track, nor `complete` what was received. The last numbers lie below the greatest of eight
-- bytes, and no more than the widest window is in use. The numbers done out of order ascend; they lie above the one behind `complete`,
-- which isn't done, and were received.
pub record InOrder (t : PlainTracks) : Type 0 where
  pub acked : t.acked ≤ t.issued1
  pub complete : t.complete ≤ t.received
  pub received : t.received ≤ t.issued2
  pub last1 : t.issued1 < 2 ^ 64 - 1
  pub last2 : t.issued2 < 2 ^ 64 - 1
  pub window : in_use t ≤ WIDEST_WINDOW
  pub done : IsTrue (ascend (t.complete + 1) t.received t.done)

-- in order, with room for so many numbers done out of order: as many as track 2 has in use
pub record AreHeld (t : PlainTracks) (places : ℕ) : Type 0 where
  pub order : InOrder t
  pub room : t.issued2 - t.complete ≤ places

-- whether tracks are in order
abbrev pub are_in_order : PlainTracks → Bool
are_in_order t =
    nat_le t.acked t.issued1
    && (nat_le t.complete t.received
    && (nat_le t.received t.issued2
    && (nat_lt t.issued1 (2 ^ 64 - 1)
    && (nat_lt t.issued2 (2 ^ 64 - 1)
    && (nat_le (in_use t) WIDEST_WINDOW && ascend (t.complete + 1) t.received t.done)))))

-- tracks with these marks, and these numbers done out of order
abbrev pub tracks_of : Marks → List ℕ → PlainTracks
tracks_of m done =
    record { issued1 = m.issued1; acked = m.acked; issued2 = m.issued2; received = m.received; complete = m.complete; done = done }
