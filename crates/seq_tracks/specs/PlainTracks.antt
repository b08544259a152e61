-- The two tracks of a session: which numbers they have given, and how far the client has acknowledged these.
use Rattle.std.specs.Prelude.{ℕ, ◌+◌, ◌-◌, Bool, false, ◌&&◌, ◌||◌, not, ◌==◌, nat_le, nat_lt, min, if◌then◌else◌, List, []}
use Rattle.session_model.specs.PlainSession.{left_of}
use Rattle.session_model.specs.PlainSession.{has}
use Rattle.seq_tracks.specs.declared.marks.TheConstants.{WIDEST_WINDOW}

-- Each track numbers its deliveries from 1, and has the last number that it gave. Track 1 is that of QoS 1: all up to `acked` are
-- acknowledged (MQTT 4.3.2). Track 2 is that of QoS 2: PUBREC came for all up to `received`; done are all up to `complete` and those of the
-- list, which ascends and lies further up (MQTT 4.3.3).
pub record PlainTracks : Type 0 where
  pub issued1 : ℕ
  pub acked : ℕ
  pub issued2 : ℕ
  pub received : ℕ
  pub complete : ℕ
  pub done : List ℕ

-- those of a session that begins
abbrev pub no_tracks : PlainTracks
no_tracks = record { issued1 = 0; acked = 0; issued2 = 0; received = 0; complete = 0; done = [] }

-- ---- one number

-- a number of track 2 is done; 0, which no delivery has, counts as done
abbrev pub is_done : PlainTracks → ℕ → Bool
is_done t number = nat_le number t.complete || has t.done number

-- received and not done: what is sent again is PUBREL (MQTT 4.3.3)
abbrev pub is_released : PlainTracks → ℕ → Bool
is_released t number = nat_le number t.received && not (is_done t number)

-- on track 1: given, and above the mark
abbrev pub is_unfinished1 : PlainTracks → ℕ → Bool
is_unfinished1 t number = nat_lt t.acked number && nat_le number t.issued1

-- on track 2: given, and not done
abbrev pub is_unfinished2 : PlainTracks → ℕ → Bool
is_unfinished2 t number = nat_le number t.issued2 && not (is_done t number)

-- on track 1 or 2; there is no third track
abbrev pub is_unfinished : PlainTracks → ℕ → ℕ → Bool
is_unfinished t track number =
    if track == 1 then is_unfinished1 t number else if track == 2 then is_unfinished2 t number else false

-- the mark of track 1 or 2 that PUBACK or PUBREC moves, and the last number that the track gave
abbrev pub mark_of : PlainTracks → ℕ → ℕ
mark_of t track = if track == 1 then t.acked else t.received

abbrev pub last_of : PlainTracks → ℕ → ℕ
last_of t track = if track == 1 then t.issued1 else t.issued2

-- ---- the window

-- how many numbers were given behind `acked` and behind `complete`
abbrev pub in_use : PlainTracks → ℕ
in_use t = (t.issued1 - t.acked) + (t.issued2 - t.complete)

-- how many more numbers may be given with this window: never more than either track has left
abbrev pub room : PlainTracks → ℕ → ℕ
room t window = min (window - in_use t) (min (left_of t.issued1) (left_of t.issued2))

-- so many more of each track are within the widest window, and below the greatest of eight bytes
abbrev pub has_room_for : PlainTracks → ℕ → ℕ → Bool
has_room_for t count1 count2 =
    nat_le (in_use t + (count1 + count2)) WIDEST_WINDOW
    && (nat_le count1 (left_of t.issued1) && nat_le count2 (left_of t.issued2))
