-- A journal with the sessions that it holds.
use Rattle.std.specs.Prelude.{◌≡◌, IsTrue}
use Rattle.outside.specs.DiskModel.{DiskState}
use Rattle.pair_log.specs.PlainPair.{Told}
use Rattle.session_state.specs.KeptSession.{KeptSessions}
use Rattle.session_codec.specs.declared.formats.TheConstants.{SECOND_FORMAT}
use Rattle.session_codec.specs.HasSpelling.{fits_sessions}
use Rattle.session_journal.specs.Fold.{Holds}
use Rattle.session_journal.specs.PlainJournal.{PlainJournal, held}

pub record PlainHeld (D : Type 0) : Type 0 where
  pub journal : PlainJournal D
  pub sessions : KeptSessions

-- its records hold these sessions, which have a spelling
pub record IsHeld {D : Type 0} (state : D → DiskState) (h : PlainHeld D) : Type 0 where
  pub holds : Told state h.journal.pair → held h.journal ≡ Holds h.sessions
  pub spelled : IsTrue (fits_sessions SECOND_FORMAT h.journal.asked.shards h.sessions)
