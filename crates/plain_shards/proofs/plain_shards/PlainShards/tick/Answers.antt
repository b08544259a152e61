use Rattle.plain_shards.specs.Calls.{TicksLater}
use Rattle.plain_shards.proofs.ViewLemmas.{moved_goes}
use Rattle.plain_shards.proofs.plain_shards.PlainShards.tick.Goals as goal

pub returns-clause-goes : goal.returns-clause-goes
returns-clause-goes g c =
    rw (← c.self.view_is) (moved_goes (TicksLater g.D.Disk.state c.tick_at.result) _ c.self.inside.in_view c.self.inside.logs.items c.tick_at.new.logs.items (λ old new r. r.later)
    c.tick_at.ensures.moved)
