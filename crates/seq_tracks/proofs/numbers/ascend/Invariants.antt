use Rattle.std.proofs.Common.{◌≡◌, drop}
use Rattle.seq_tracks.specs.InOrder.{ascend}
use Rattle.seq_tracks.proofs.numbers.ascend.Given as goal

-- what is left ascends behind the last one exactly where all do
abbrev pub invariant-loop-number : goal.invariant-loop-number
invariant-loop-number l = ascend l.before l.last (drop l.number-index l.numbers) ≡ ascend l.above l.last l.numbers
