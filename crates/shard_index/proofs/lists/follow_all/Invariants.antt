use Rattle.std.proofs.Common.{◌≡◌, drop}
use Rattle.shard_index.specs.Absorbing.{awaited_after_all}
use Rattle.shard_index.proofs.lists.follow_all.Given as goal

abbrev pub invariant-loop-op : goal.invariant-loop-op
invariant-loop-op l = awaited_after_all (drop l.op-index l.fn.ops) l.awaited ≡ awaited_after_all l.fn.ops l.initial.awaited
