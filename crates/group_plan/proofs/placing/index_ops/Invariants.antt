use Rattle.std.proofs.Common.{◌≡◌, map}
use Rattle.record_codec.specs.Records.{index_op}
use Rattle.group_plan.proofs.placing.index_ops.Given as goal

abbrev pub invariant-loop-op : goal.invariant-loop-op
invariant-loop-op l = l.taken.items ≡ map index_op l.yielded
