use Rattle.std.proofs.Common.{◌≤◌, ◌<◌, ◌^◌, drop, length, map}
use Rattle.std.specs.Borrow.{Bor}
use Rattle.record_codec.specs.declared.group.Op.{Op}
use Rattle.group_plan.specs.KeepLaws.{IsKept}
use Rattle.group_plan.proofs.keeping.kept_of.Given as goal

abbrev pub invariant-loop-op : goal.invariant-loop-op
invariant-loop-op l =
    record {
      start : length l.index.awaited < 2 ^ 64;
      few : length l.kept.items ≤ l.op-index;
      kept : IsKept l.index.awaited l.ops (drop l.op-index l.ops) (map (λ (o : Bor Op). o.now) l.kept.items) l.awaited;
    }
