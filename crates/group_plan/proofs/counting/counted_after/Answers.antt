use Rattle.std.proofs.Common.{◌+◌, sym, ap, ◌∙◌, drop, arith}
use Rattle.record_codec.specs.Records.{plain_op, plain_ops}
use Rattle.group_plan.specs.Counting.{counted_after}
use Rattle.group_plan.proofs.References.{told, rest_at}
use Rattle.group_plan.proofs.counting.counted_after.Goals as goal

pub loop-op-preserved : goal.loop-op-preserved
loop-op-preserved c =
    let asked = plain_op c.args.asked.now in
    let rest = rest_at c.args.kept.now c.loop-op.op-index c.op-item.result c.loop-op-test.true c.op-item.is in
    record {
      few = omega (arith, c.counted_by-count.ensures.most, c.loop-op.invariant.few);
      counted =
          ap (λ n. counted_after asked n (plain_ops (drop (c.loop-op.op-index + 1) (told c.args.kept.now)))) c.counted_by-count.ensures.value
          ∙ sym (ap (λ l. counted_after asked c.loop-op.count (plain_ops l)) rest)
          ∙ c.loop-op.invariant.counted;
    }
