use Rattle.std.proofs.Common.{IsTrue}
use Rattle.session_codec.specs.declared.formats.TheConstants.{SECOND_FORMAT}
use Rattle.session_codec.specs.HasSpelling.{fits_sessions}
use Rattle.session_bench.proofs.work.begun.Given as goal

-- those so far have a spelling
abbrev pub invariant-loop-before : goal.invariant-loop-before
invariant-loop-before l = IsTrue (fits_sessions SECOND_FORMAT 1 l.sessions)
