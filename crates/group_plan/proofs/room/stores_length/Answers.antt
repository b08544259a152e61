use Rattle.std.proofs.Common.{arith}
use Rattle.record_codec.specs.SizeLaws.{one_more_counted}
use Rattle.group_plan.proofs.References.{at_place, told, told_long}
use Rattle.group_plan.proofs.room.stores_length.Goals as goal

pub loop-op-preserved : goal.loop-op-preserved
loop-op-preserved c =
    let long = told_long c.args.kept.now in
    one_more_counted (told c.args.kept.now) c.loop-op.op-index c.op-item.result.now c.loop-op.total c.counted_length.result c.saturating_add-total.result (omega arith)
    (at_place c.args.kept.now c.loop-op.op-index c.op-item.result c.loop-op-test.true c.op-item.is)
    c.loop-op.invariant c.counted_length.ensures c.saturating_add-total.ensures
