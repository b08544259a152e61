use Rattle.std.proofs.Common.{sym, ap, ◌∙◌}
use Rattle.record_codec.specs.Records.{plain_op, plain_ops}
use Rattle.group_plan.specs.Keeping.{awaited_after}
use Rattle.group_plan.specs.Counting.{asked_count, total_by}
use Rattle.group_plan.specs.CountLaws.{total_is, free_is}
use Rattle.group_plan.proofs.References.{told}
use Rattle.group_plan.proofs.counting.total_behind.Goals as goal

pub returns : goal.returns
returns c =
    let op = plain_op c.args.op.now in
    let awaited = awaited_after c.args.index.now.awaited (plain_ops (told c.args.kept.now)) in
    c.total_by-2.ensures
    ∙ ap (λ n. total_by op n c.args.total) c.counted_behind-count.ensures
    ∙ ap (total_by op (asked_count op awaited)) c.requires.so_far
    ∙ total_is op awaited

pub returns-then-is_free : goal.returns-then-is_free
returns-then-is_free c =
    let op = plain_op c.args.op.now in
    let awaited = awaited_after c.args.index.now.awaited (plain_ops (told c.args.kept.now)) in
    let free = sym c.is_free.ensures ∙ c.if-is_free.true in
    c.total_by.ensures
    ∙ free_is op 0 c.args.total free
    ∙ sym (free_is op (asked_count op awaited) c.args.total free)
    ∙ ap (total_by op (asked_count op awaited)) c.requires.so_far
    ∙ total_is op awaited
