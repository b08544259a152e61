-- What each change makes of tracks.
use Rattle.std.specs.Prelude.{ℕ, ◌+◌, ◌-◌, ◌<◌, ◌≤◌, ◌≡◌, true, false, ◌==◌, if◌then◌else◌, List, [], ◌∷◌, ◌++◌, filter, length}
use Rattle.session_model.specs.PlainSession.{done_from}
use Rattle.session_model.specs.Acting.{numbers_from}
use Rattle.session_model.specs.PlainSession.{has}
use Rattle.seq_tracks.specs.PlainTracks.{PlainTracks}
use Rattle.seq_tracks.specs.InOrder.{ascend}

-- ---- what is done

-- the greatest number up to which all are done, where all up to a number are and also those of a list
abbrev pub complete_with : ℕ → List ℕ → ℕ
complete_with complete done = complete + done_from done (complete + 1) (length done)

-- those of a list above a number and up to another, ascending and each once
abbrev pub those_between : ℕ → ℕ → List ℕ → List ℕ
those_between above last numbers = filter (has numbers) (numbers_from (above + 1) (last - above))

-- track 2 is received up to a number and complete up to another, and those of a list between the two are done
abbrev pub with_these : ℕ → List ℕ → ℕ → PlainTracks → PlainTracks
with_these received done complete t = record t { received = received; complete = complete; done = those_between complete received done }

-- Track 2 is received up to a number, and more numbers are done: then done are exactly the old ones and these, `complete` is the greatest
-- number up to which all are done, and the list has those above it.
abbrev pub with_done : ℕ → List ℕ → PlainTracks → PlainTracks
with_done received more t = with_these received (t.done ++ more) (complete_with t.complete (t.done ++ more)) t

-- What tells such tracks, where `all` are those done out of order before and the new ones: all up to the new `complete` are done and the
-- next isn't, and the list, which ascends, has those above it.
pub record IsDoneUpTo (t : PlainTracks) (received : ℕ) (all : List ℕ) (complete : ℕ) (done : List ℕ) : Type 0 where
  pub low : t.complete ≤ complete
  pub high : complete ≤ received
  pub many : complete - t.complete ≤ length all
  pub below : (n : ℕ) → t.complete < n → n ≤ complete → has all n ≡ true
  pub next : has all (complete + 1) ≡ false
  pub ascends : ascend (complete + 1) received done ≡ true
  pub above : (n : ℕ) → complete < n → n ≤ received → has done n ≡ has all n

-- ---- the changes

-- PUBACK came for a number: all up to it are acknowledged (MQTT 4.3.2, 4.6)
abbrev pub acked_tracks : ℕ → PlainTracks → PlainTracks
acked_tracks number t = record t { acked = number }

-- PUBREC came for a number: those between the old mark and this number were passed over, and are done (MQTT 4.3.3)
abbrev pub received_tracks : ℕ → PlainTracks → PlainTracks
received_tracks number t = with_done number (numbers_from (t.received + 1) (number - (t.received + 1))) t

-- PUBCOMP came for a number (MQTT 4.3.3)
abbrev pub done_tracks : ℕ → PlainTracks → PlainTracks
done_tracks number t = with_done t.received (number ∷ []) t

-- all from the mark of track 1 or 2 up to a number were passed over: on track 1 they are acknowledged, on track 2 received and done
abbrev pub passed_tracks : ℕ → ℕ → PlainTracks → PlainTracks
passed_tracks track number t =
    if track == 1 then acked_tracks number t else with_done number (numbers_from (t.received + 1) (number - t.received)) t

-- so many more numbers were given on each track
abbrev pub issued_tracks : ℕ → ℕ → PlainTracks → PlainTracks
issued_tracks count1 count2 t = record t { issued1 = t.issued1 + count1; issued2 = t.issued2 + count2 }
