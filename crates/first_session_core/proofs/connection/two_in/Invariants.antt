use Rattle.std.proofs.Common.{◌≡◌, drop}
use Rattle.first_session_core.specs.PlainConnection.{two_of}
use Rattle.first_session_core.proofs.connection.two_in.Given as goal

-- what is left has the answer
abbrev pub invariant-loop-prop : goal.invariant-loop-prop
invariant-loop-prop l = two_of l.identifier l.absent (drop l.prop-index l.props) ≡ two_of l.identifier l.absent l.props
