-- What was gathered is all that came since the start.
use Rattle.std.specs.Io.KnownBytes.{Consumes}
use Rattle.outside.proofs.tests.read_all.Given as goal

abbrev pub invariant-loop-turn : goal.invariant-loop-turn
invariant-loop-turn g l = Consumes (g.S.Source.left l.initial.source) (g.S.Source.left l.source) l.bytes.items
