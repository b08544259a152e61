use Rattle.std.proofs.Common.{drop, map}
use Rattle.std.specs.Borrow.{Bor}
use Rattle.record_codec.specs.declared.group.Op.{Op}
use Rattle.group_plan.specs.StoreLaws.{IsWritten}
use Rattle.group_plan.proofs.placing.written_from.Given as goal

abbrev pub invariant-loop-op : goal.invariant-loop-op
invariant-loop-op l = let kept = map (λ (o : Bor Op). o.now) l.kept in IsWritten l.now l.first kept (drop l.op-index kept) l.ops.items l.offset
