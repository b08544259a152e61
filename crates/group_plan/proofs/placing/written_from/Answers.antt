use Rattle.std.proofs.Common.{◌≡◌, ◌+◌, [], ◌∷◌, ◌++◌, drop, sym, ap, subst, ◌∙◌, arith}
use Rattle.record_codec.specs.declared.group.Op.{Op}
use Rattle.record_codec.specs.Records.{offsets_of}
use Rattle.group_plan.specs.Plan.{written_at}
use Rattle.group_plan.specs.StoreLaws.{IsWritten, one_fits, next_within, one_written}
use Rattle.group_plan.proofs.References.{told, rest_at}
use Rattle.group_plan.proofs.placing.written_from.Goals as goal

pub written_at-requires : goal.written_at-requires
written_at-requires c =
    let kept = told c.args.kept.now in
    let rest = rest_at c.args.kept.now c.loop-op.op-index c.op-item.result c.loop-op-test.true c.op-item.is in
    let w = subst (λ l. IsWritten c.args.now c.args.first kept l c.loop-op.ops.items c.loop-op.offset) rest c.loop-op.invariant in
    one_fits c.args.now c.args.first kept (drop (c.loop-op.op-index + 1) kept) c.loop-op.ops.items c.op-item.result.now c.loop-op.offset w

pub overflow_add-offset : goal.overflow_add-offset
overflow_add-offset c =
    let kept = told c.args.kept.now in
    let rest = rest_at c.args.kept.now c.loop-op.op-index c.op-item.result c.loop-op-test.true c.op-item.is in
    let w = subst (λ l. IsWritten c.args.now c.args.first kept l c.loop-op.ops.items c.loop-op.offset) rest c.loop-op.invariant in
    let within = next_within c.args.now c.args.first kept (drop (c.loop-op.op-index + 1) kept) c.loop-op.ops.items c.op-item.result.now c.loop-op.offset w c.requires in
    omega (arith, within, c.offsets_of-offset.ensures)

pub loop-op-preserved : goal.loop-op-preserved
loop-op-preserved c =
    let kept = told c.args.kept.now in
    let left = drop (c.loop-op.op-index + 1) kept in
    let op = c.op-item.result.now in
    let offset = c.loop-op.offset in
    let rest = rest_at c.args.kept.now c.loop-op.op-index c.op-item.result c.loop-op-test.true c.op-item.is in
    let w = subst (λ l. IsWritten c.args.now c.args.first kept l c.loop-op.ops.items offset) rest c.loop-op.invariant in
    let one = one_written c.args.now c.args.first kept left c.loop-op.ops.items op offset w in
    let items : c.push.new.self.items ≡ c.loop-op.ops.items ++ written_at c.args.now offset op ∷ [] =
    c.in_ok-push.ensures.items ∙ ap (λ (x : Op). c.loop-op.ops.items ++ x ∷ []) c.in_ok-written.ensures in
    subst (λ n. IsWritten c.args.now c.args.first kept left c.push.new.self.items (offset + n)) (sym c.offsets_of-offset.ensures)
    (subst (λ l. IsWritten c.args.now c.args.first kept left l (offset + offsets_of op)) (sym items) one)
