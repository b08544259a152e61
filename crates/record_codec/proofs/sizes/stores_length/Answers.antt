use Rattle.std.proofs.Common.{arith}
use Rattle.record_codec.specs.SizeLaws.{one_more_counted}
use Rattle.record_codec.proofs.sizes.stores_length.Goals as goal

pub loop-op-preserved : goal.loop-op-preserved
loop-op-preserved c =
    one_more_counted c.args.ops.now c.loop-op.op-index c.op-item.result c.loop-op.total c.counted_length.result c.saturating_add-total.result (omega arith) c.op-item.is
    c.loop-op.invariant c.counted_length.ensures c.saturating_add-total.ensures
