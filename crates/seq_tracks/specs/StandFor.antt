-- How tracks stand for those of a plain session.
use Rattle.std.specs.Prelude.{ℕ, ◌<◌, ◌≡◌, length}
use Rattle.session_model.specs.Entry.{numbers1, numbers2}
use Rattle.session_model.specs.PlainSession as session
use Rattle.session_model.specs.PlainSession.{PlainSession, issued1_of, issued2_of, complete_of}
use Rattle.session_model.specs.Change.{Effect, Issued, Acked, Received, Done, Passed}
use Rattle.seq_tracks.specs.PlainTracks.{PlainTracks, is_done}
use Rattle.seq_tracks.specs.Changed.{acked_tracks, received_tracks, done_tracks, passed_tracks, issued_tracks}

-- The numbers and marks agree, and a number from 1 on is done in the one exactly where it is in the other.
pub record TracksStandFor (t : PlainTracks) (m : PlainSession) : Type 0 where
  pub issued1 : t.issued1 ≡ issued1_of m
  pub acked : t.acked ≡ m.acked
  pub issued2 : t.issued2 ≡ issued2_of m
  pub received : t.received ≡ m.received
  pub complete : t.complete ≡ complete_of m
  pub done : (number : ℕ) → 0 < number → is_done t number ≡ session.is_done m number

-- what a change of a session makes of its tracks; most leave them as they are
abbrev pub changed_tracks : Effect → PlainTracks → PlainTracks
changed_tracks (Issued i) t = issued_tracks (length (numbers1 i.entries)) (length (numbers2 i.entries)) t
changed_tracks (Acked number) t = acked_tracks number t
changed_tracks (Received number) t = received_tracks number t
changed_tracks (Done number) t = done_tracks number t
changed_tracks (Passed p) t = passed_tracks p.track p.number t
changed_tracks other t = t
