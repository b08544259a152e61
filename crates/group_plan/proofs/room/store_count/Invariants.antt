use Rattle.std.proofs.Common.{◌≡◌, ◌≤◌, ◌+◌, drop, length, map}
use Rattle.std.specs.Borrow.{Bor}
use Rattle.record_codec.specs.declared.group.Op.{Op}
use Rattle.record_codec.specs.Records.{messages_of}
use Rattle.group_plan.proofs.room.store_count.Given as goal

-- those so far and those that are left
abbrev pub invariant-loop-op : goal.invariant-loop-op
invariant-loop-op l =
    let kept = map (λ (o : Bor Op). o.now) l.kept in
    record {
      few : l.count ≤ l.op-index;
      counted : l.count + length (messages_of (drop l.op-index kept)) ≡ length (messages_of kept);
    }
