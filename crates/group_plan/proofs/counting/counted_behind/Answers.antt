use Rattle.std.proofs.Common.{ap, ◌∙◌}
use Rattle.record_codec.specs.Records.{plain_op, plain_ops}
use Rattle.group_plan.specs.Counting.{counted_after}
use Rattle.group_plan.specs.CountLaws.{counts_after}
use Rattle.group_plan.proofs.References.{told}
use Rattle.group_plan.proofs.counting.counted_behind.Goals as goal

pub returns : goal.returns
returns c =
    let asked = plain_op c.args.asked.now in
    let kept = plain_ops (told c.args.kept.now) in
    c.counted_after.ensures
    ∙ ap (λ n. counted_after asked n kept) c.counted_in-start.ensures.count
    ∙ counts_after asked kept c.args.index.now.awaited c.facts.ensures.distinct c.requires.act
