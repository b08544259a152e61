-- The first `done` bytes of the piece are put, at least one each round.
use Rattle.std.proofs.Common.{◌≤◌, length, take}
use Rattle.outside.specs.Sink.{Puts}
use Rattle.outside.proofs.adapters.write_whole.Given as goal

abbrev pub invariant-loop-round : goal.invariant-loop-round
invariant-loop-round g l =
    (l._round ≤ l.done)
    × (l.done ≤ length l.piece)
    × Puts (g.W.Write.contents l.initial.writer) (g.W.Write.contents l.writer) (take l.done l.piece)
