use Rattle.plain_shards.specs.Calls.{AppendsLater}
use Rattle.plain_shards.proofs.ViewLemmas.{moved_goes, receipt_of}
use Rattle.plain_shards.proofs.plain_shards.PlainShards.append.Goals as goal

pub returns-clause-goes : goal.returns-clause-goes
returns-clause-goes g c =
    rw (← c.self.view_is) (moved_goes (AppendsLater g.D.Disk.state c.args.ops.now c.args.now c.append_to.result) _ c.self.inside.in_view c.self.inside.logs.items c.append_to.new.logs.items
    (λ old new r. r.later) c.append_to.ensures.moved)

pub returns-clause-of : goal.returns-clause-of
returns-clause-of g c =
    receipt_of g.D.Disk.state c.args.ops.now c.args.now _ c.self.inside.in_view c.self.inside.logs.items c.append_to.new.logs.items c.append_to.result c.self.invariant c.append_to.ensures.moved
