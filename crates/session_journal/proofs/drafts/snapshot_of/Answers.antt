use Rattle.std.proofs.Common.{IsTrue, subst, sym}
use Rattle.session_codec.specs.declared.formats.TheConstants.{SECOND_FORMAT}
use Rattle.session_codec.specs.HasSpelling.{fits_sessions}
use Rattle.session_codec.specs.KeepLaws.{changes_spelled_after}
use Rattle.session_journal.proofs.drafts.snapshot_of.Goals as goal

pub snapshot_bytes-requires-clause-spelled : goal.snapshot_bytes-requires-clause-spelled
snapshot_bytes-requires-clause-spelled c =
    subst (λ s. IsTrue (fits_sessions SECOND_FORMAT c.args.asked.shards s)) (sym c.in_ok-after.ensures)
    (changes_spelled_after SECOND_FORMAT c.args.asked.shards c.args.sessions.now c.args.changes.now c.requires.spelled c.requires.changes c.requires.fit)
