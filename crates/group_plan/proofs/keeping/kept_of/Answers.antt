use Rattle.std.proofs.Common.{◌≡◌, ◌+◌, [], ◌∷◌, ◌++◌, Vec, Global, length, drop, sym, ap, subst, ◌∙◌, arith}
use Rattle.std.proofs.lemmas.List.{drop_more, length-append, length-map, map-append}
use Rattle.std.specs.Borrow.{Bor}
use Rattle.record_codec.specs.declared.group.Op.{Op}
use Rattle.record_codec.specs.Records.{plain_op, plain_ops}
use Rattle.group_plan.specs.CountLaws.{after_at_most}
use Rattle.group_plan.specs.KeepLaws.{IsKept, one_kept, one_skipped}
use Rattle.group_plan.proofs.References.{now_of, told, told_long}
use Rattle.group_plan.proofs.keeping.kept_of.Goals as goal
use Rattle.group_plan.proofs.keeping.kept_of.Goals.{in-Some+in_ok-push, in_default}

pub total_behind-requires-clause-less : goal.total_behind-requires-clause-less
total_behind-requires-clause-less c =
    let kept = told c.loop-op.kept.items in
    let few = after_at_most (plain_ops kept) c.args.index.now.awaited in
    let plain = length-map kept plain_op in
    let long = told_long c.loop-op.kept.items in
    omega (arith, few, plain, long, c.loop-op.invariant.kept.counted, c.loop-op.invariant.start, c.loop-op.invariant.few, c.requires)

pub loop-op-preserved : goal.loop-op-preserved
loop-op-preserved c =
    let ops = c.args.ops.now in
    let place = c.loop-op.op-index in
    let awaited = c.args.index.now.awaited in
    let op = c.op-item.result in
    let left = drop (place + 1) ops in
    let so_far = told c.loop-op.kept.items in
    let tells = rw c.deref.ensures.value at c.total_behind.ensures in
    let rest : drop place ops ≡ op ∷ left = drop_more ops place op c.loop-op-test.true ∙ ap (λ x. x ∷ left) (sym c.op-item.is) in
    let kept = subst (λ l. IsKept awaited ops l so_far c.loop-op.awaited) rest c.loop-op.invariant.kept in
    elim c.match-total_behind.branch [
      | in-Some+in_ok-push w ↦
          let items = ap (λ (v : Vec (Bor Op) Global). v.items) w.kept-is ∙ w.in_ok-push.ensures.items in
          let longer = ap length items ∙ length-append c.loop-op.kept.items _ in
          let more : told c.match-total_behind.kept.items ≡ so_far ++ op ∷ [] = ap told items ∙ map-append now_of c.loop-op.kept.items _ in
          let one = one_kept awaited ops left so_far op c.loop-op.awaited kept c.total_behind.result w.in-Some.total tells w.in-Some.is in
          record {
            start = c.loop-op.invariant.start;
            few = omega (arith, longer, c.loop-op.invariant.few);
            kept = subst (λ l. IsKept awaited ops left l c.match-total_behind.awaited) (sym more) (subst (IsKept awaited ops left (so_far ++ op ∷ [])) (sym w.awaited-is) one);
          }
      | in_default w ↦
          let same = ap (λ (v : Vec (Bor Op) Global). v.items) w.kept-is in
          let one = one_skipped awaited ops left so_far op c.loop-op.awaited kept c.total_behind.result tells w.in_default.is in
          record {
            start = c.loop-op.invariant.start;
            few = omega (arith, ap length same, c.loop-op.invariant.few);
            kept = subst (λ l. IsKept awaited ops left l c.match-total_behind.awaited) (sym (ap told same)) (subst (IsKept awaited ops left so_far) (sym w.awaited-is) one);
          }
    ]
