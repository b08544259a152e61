use Rattle.std.proofs.Common.{◌≡◌, drop}
use Rattle.first_session_core.specs.PlainConnection.{four_of}
use Rattle.first_session_core.proofs.connection.four_in.Given as goal

-- what is left has the answer
abbrev pub invariant-loop-prop : goal.invariant-loop-prop
invariant-loop-prop l = four_of l.identifier l.absent (drop l.prop-index l.props) ≡ four_of l.identifier l.absent l.props
