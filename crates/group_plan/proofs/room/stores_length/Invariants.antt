use Rattle.std.proofs.Common.{◌≡◌, ◌-◌, ◌^◌, min, map, take}
use Rattle.std.specs.Borrow.{Bor}
use Rattle.record_codec.specs.declared.group.Op.{Op}
use Rattle.record_codec.specs.Sizes.{stores_size}
use Rattle.group_plan.proofs.room.stores_length.Given as goal

abbrev pub invariant-loop-op : goal.invariant-loop-op
invariant-loop-op l = l.total ≡ min (stores_size (take l.op-index (map (λ (o : Bor Op). o.now) l.kept))) (2 ^ 64 - 1)
