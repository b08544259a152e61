use Rattle.std.proofs.Common.{ap, subst}
use Rattle.shard_disks.specs.Calls.{Told}
use Rattle.shard_disks.specs.Images.{AllRead}
use Rattle.shard_disks.specs.Outline.{IsEither, reads_after, reads_of}
use Rattle.shard_disks.specs.PlainDisks.{PlainDisks, all_disks, outline}
use Rattle.shard_disks.proofs.ImageLemmas.{all_rest}
use Rattle.shard_disks.proofs.StandLemmas.{either_read, none_doubted, stands_outlined}
use Rattle.shard_disks.proofs.shard_disks.ShardDisks.doubted.Goals as goal

pub returns-clause-images : goal.returns-clause-images
returns-clause-images g c =
    let state = g.D.Disk.state in
    subst (λ (d : PlainDisks g.row.D.Denot). Told state d → AllRead state (all_disks d) (IsEither (reads_of (outline d)) (reads_after (outline d)))) c.self.view_is
    (either_read state c.self.inside.manifest c.self.inside.slots.items c.self.inside.doubted c.self.invariant.0)

pub returns-clause-stand : goal.returns-clause-stand
returns-clause-stand g c = rw (← c.self.view_is) (stands_outlined c.self.inside.doubted c.self.inside.slots.items c.self.invariant.0.stand)

pub returns-clause-rests : goal.returns-clause-rests
returns-clause-rests g c = rw (← c.self.view_is) (λ none.
    ap (λ l. record { manifest = c.self.inside.manifest.active.payloads; slots = l }) (all_rest c.self.inside.slots.items (none_doubted c.self.inside.doubted c.self.inside.slots.items c.self.invariant.0.stand none)))
