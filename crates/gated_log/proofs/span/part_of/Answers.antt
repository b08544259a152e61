use Rattle.gated_log.proofs.PartLemmas.{part_is}
use Rattle.gated_log.proofs.span.part_of.Goals as goal

pub returns-clause-part : goal.returns-clause-part
returns-clause-part c = λ bytes. rw (c.min.ensures, c.min-start.ensures) (part_is bytes c.args.span.at c.args.span.length c.args.from c.args.count)
