use Rattle.std.proofs.Common.{◌≡◌, replicate}
use Rattle.record_codec.specs.declared.group.Op.TheVariants.{Store}
use Rattle.shard_bench.specs.Published.{hundred}
use Rattle.shard_bench.proofs.groups.many.Given as goal

-- so many of them were pushed
abbrev pub invariant-loop : goal.invariant-loop
invariant-loop l = l.ops.items ≡ replicate l.counter (Store hundred)
