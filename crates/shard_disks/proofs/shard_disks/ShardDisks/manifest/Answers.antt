use Rattle.std.proofs.Common.{ap, ◌∙◌}
use Rattle.shard_disks.specs.PlainDisks.{PlainDisks, all_mounted}
use Rattle.shard_disks.proofs.HistoryLemmas.{one_more}
use Rattle.shard_disks.proofs.ManifestLemmas.{manifest_blamed, manifest_read}
use Rattle.pair_log.specs.PlainPair.{PlainPair}
use Rattle.shard_disks.proofs.BlameLemmas.{manifest_blamed_at}
use Rattle.shard_disks.proofs.shard_disks.ShardDisks.manifest.Goals as goal

pub returns-clause-reads : goal.returns-clause-reads
returns-clause-reads g c =
    let none = ap (λ (d : PlainDisks g.row.D.Denot). d.doubted) c.self.view_is ∙ c.requires in
    let e = c.snapshot.ensures in
    manifest_read g.D.Disk.state c.self.inside.manifest c.snapshot.new.self c.self.inside.slots.items c.self.inside.doubted c.self.invariant.0 none e.stays e.images e.run.tells e.run.arms
    g.met.D.Disk.only_now e.any_moment e.writes_none _ _ _ c.self.view_is (one_more (all_mounted c.self.inside.begun.items) _ _ _ c.recorded-self-inside.ensures)

pub returns-clause-cause : goal.returns-clause-cause
returns-clause-cause g c =
    let none = ap (λ (d : PlainDisks g.row.D.Denot). d.doubted) c.self.view_is ∙ c.requires in
    let e = c.snapshot.ensures in
    manifest_blamed g.D.Disk.state c.self.inside.manifest c.snapshot.new.self c.self.inside.slots.items c.self.inside.doubted c.self.invariant.0 none e.stays e.images e.run.tells e.run.arms
    c.snapshot.result e.cause _ _ c.self.view_is

pub returns-clause-blame : goal.returns-clause-blame
returns-clause-blame g c =
    let e = c.snapshot.ensures in
    manifest_blamed_at g.D.Disk.state c.self.inside.manifest c.snapshot.new.self c.self.inside.slots.items c.self.inside.doubted _ _ c.snapshot.result c.self.view_is
    (ap (λ (p : PlainPair g.row.D.Denot). p.side) e.stays) (ap (λ (p : PlainPair g.row.D.Denot). p.standby.disk) e.stays) e.cause
