use Rattle.std.proofs.Common.{◌≡◌, arith, subst}
use Rattle.gated_log.specs.PlainLog.{end_of}
use Rattle.shard_disks.specs.Calls.{Told}
use Rattle.shard_disks.specs.Outline.{slot_in}
use Rattle.shard_disks.specs.PlainDisks.{PlainDisks, outline}
use Rattle.shard_disks.proofs.RoomLemmas.{end_here}
use Rattle.shard_disks.proofs.shard_disks.ShardDisks.end.Goals as goal

pub returns-clause-behind_records : goal.returns-clause-behind_records
returns-clause-behind_records g c =
    let state = g.D.Disk.state in
    subst (λ (d : PlainDisks g.row.D.Denot). Told state d → (slot_in (outline d) c.args.slot).end ≡ end_of (slot_in (outline d) c.args.slot).payloads) c.self.view_is
    (end_here state c.self.inside.manifest c.self.inside.slots.items c.self.inside.doubted c.self.invariant.0 c.args.slot c.index.result.now
    (omega (arith, c.requires, c.self.invariant.0.eight)) c.index.ensures c.end.ensures.behind_records)
