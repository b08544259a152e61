use Rattle.std.proofs.Common.{◌≡◌, drop}
use Rattle.shard_fold.specs.Fold.{are_same}
use Rattle.shard_fold.proofs.openings.are_same.Given as goal

abbrev pub invariant-loop-place : goal.invariant-loop-place
invariant-loop-place l = are_same l.awaited l.index.awaited ≡ are_same (drop l.place l.awaited) (drop l.place l.index.awaited)
