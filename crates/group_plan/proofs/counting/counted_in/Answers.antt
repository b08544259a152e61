use Rattle.group_plan.specs.CountLaws.{looked_up}
use Rattle.group_plan.proofs.counting.counted_in.Goals as goal

pub returns-in-Store-clause-count : goal.returns-in-Store-clause-count
returns-in-Store-clause-count c =
    rw (c.in-Store.is, ← c.message.view_is)
    (looked_up c.message.inside.publisher c.message.inside.incarnation c.message.inside.id c.args.index.now.awaited c.awaits.result c.one_if.result
    c.facts.ensures.distinct c.awaits.ensures c.one_if.ensures)

pub returns-in-Release-clause-count : goal.returns-in-Release-clause-count
returns-in-Release-clause-count c =
    rw c.in-Release.is
    (looked_up c.in-Release.publisher c.in-Release.incarnation c.in-Release.id c.args.index.now.awaited c.awaits-in-Release.result c.one_if-in-Release.result
    c.facts.ensures.distinct c.awaits-in-Release.ensures c.one_if-in-Release.ensures)
