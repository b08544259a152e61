use Rattle.std.proofs.Common.{◌≡◌, drop}
use Rattle.shard_index.specs.Absorbing.{IsBehind, kept_after_all}
use Rattle.shard_index.proofs.index.Index.absorb_each.Given as goal

abbrev pub invariant-loop-op : goal.invariant-loop-op
invariant-loop-op l =
    (kept_after_all (drop l.op-index l.fn.ops) l.self ≡ kept_after_all l.fn.ops l.initial.self)
    × IsBehind l.initial.self l.self
