use Rattle.std.proofs.Common.{◌≡◌, ◌≤◌, ◌+◌, drop, map}
use Rattle.std.specs.Borrow.{Bor}
use Rattle.record_codec.specs.declared.group.Op.{Op}
use Rattle.record_codec.specs.Records.{plain_op, plain_ops}
use Rattle.group_plan.specs.Counting.{counted_after}
use Rattle.group_plan.proofs.counting.counted_after.Given as goal

-- the count so far, behind those that are left, is the whole one
abbrev pub invariant-loop-op : goal.invariant-loop-op
invariant-loop-op l =
    let kept = map (λ (o : Bor Op). o.now) l.kept in
    record {
      few : l.count ≤ l.start + l.op-index;
      counted : counted_after (plain_op l.asked) l.count (plain_ops (drop l.op-index kept)) ≡ counted_after (plain_op l.asked) l.start (plain_ops kept);
    }
