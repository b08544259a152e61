use Rattle.std.proofs.Common.{◌+◌, ap, length, drop, ◌∙◌, arith}
use Rattle.record_codec.specs.Records.{messages_of}
use Rattle.group_plan.specs.RoomLaws.{stores_more, one_at_most}
use Rattle.group_plan.proofs.References.{told, rest_at}
use Rattle.group_plan.proofs.room.store_count.Goals as goal

pub loop-op-preserved : goal.loop-op-preserved
loop-op-preserved c =
    let rest = rest_at c.args.kept.now c.loop-op.op-index c.op-item.result c.loop-op-test.true c.op-item.is in
    let more = ap (λ l. length (messages_of l)) rest ∙ stores_more c.op-item.result.now (drop (c.loop-op.op-index + 1) (told c.args.kept.now)) in
    let one = one_at_most c.op-item.result.now in
    record {
      few = omega (arith, one, c.offsets_of-count.ensures, c.loop-op.invariant.few);
      counted = omega (arith, more, c.offsets_of-count.ensures, c.loop-op.invariant.counted);
    }
