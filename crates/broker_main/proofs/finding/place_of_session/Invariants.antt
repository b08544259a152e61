use Rattle.std.proofs.Common.{◌≡◌, ℕ, ◌<◌, false, get_or}
use Rattle.std.specs.Str.{bytes_eq}
use Rattle.first_session_terms.specs.PlainSession.{PlainSession}
use Rattle.broker_main.proofs.finding.place_of_session.Given as goal

-- no session that was passed is the client's
abbrev pub invariant-loop-i : goal.invariant-loop-i
invariant-loop-i l = (j : ℕ) (d : PlainSession) → j < l.i → bytes_eq (get_or l.sessions j d).client l.client ≡ false
