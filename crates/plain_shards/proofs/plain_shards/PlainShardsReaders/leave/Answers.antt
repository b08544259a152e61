use Rattle.plain_shards.proofs.ViewLemmas.{views_end}
use Rattle.plain_shards.proofs.plain_shards.PlainShardsReaders.leave.Goals as goal

pub returns-clause-leaves : goal.returns-clause-leaves
returns-clause-leaves g c = rw (← c.self.view_is) (views_end (record { logs = c.self.inside.logs.items; in_view = c.self.inside.in_view }))
