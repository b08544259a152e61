use Rattle.std.proofs.Common.{◌≢◌, ℕ, ◌<◌, get_or}
use Rattle.first_session_core.specs.PlainConnection.{PlainConnection}
use Rattle.broker_main.proofs.finding.place_of_connection.Given as goal

-- no connection that was passed has the number
abbrev pub invariant-loop-i : goal.invariant-loop-i
invariant-loop-i l = (j : ℕ) (d : PlainConnection) → j < l.i → (get_or l.connections j d).number ≢ l.number
