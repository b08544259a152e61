use Rattle.std.proofs.Common.{Ok, ap, sym, ◌∙◌}
use Rattle.shard_index.specs.KeptIndex.{list_of}
use Rattle.shard_fold.specs.PotentialLaws.{bytes_take}
use Rattle.shard_fold.proofs.groups.take_group.Goals as goal

pub returns-clause-short : goal.returns-clause-short
returns-clause-short c =
    bytes_take c.args.bytes.now c.in-Ok.group (list_of c.args.index.now) (list_of c.take_ops_of.new.index) c.facts.ensures.order c.facts.ensures.bytes c.in-Ok.ensures.spelled
    (sym c.in_ok-goes_on.ensures.goes_on ∙ c.if-not-goes_on.false) (c.in_ok-goes_on.ensures.absorbed (ap Ok c.if-not-goes_on.false))
