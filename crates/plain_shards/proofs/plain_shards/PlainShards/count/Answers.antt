use Rattle.plain_shards.proofs.ViewLemmas.{as_many, unviewed}
use Rattle.plain_shards.proofs.plain_shards.PlainShards.count.Goals as goal

pub returns-clause-readers : goal.returns-clause-readers
returns-clause-readers g c = rw (← c.self.view_is) (as_many c.self.inside.in_view c.self.inside.logs.items)

pub returns-clause-unviewed : goal.returns-clause-unviewed
returns-clause-unviewed g c = rw (← c.self.view_is) (unviewed (record { logs = c.self.inside.logs.items; in_view = c.self.inside.in_view }))
