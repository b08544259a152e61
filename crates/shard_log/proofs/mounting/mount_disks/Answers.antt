use Rattle.std.proofs.Common.{◌≡◌, refl, sym, subst, ◌∙◌}
use Rattle.topic_name.specs.declared.mounting.MountRefused.{MountRefused}
use Rattle.shard_fold.specs.Fold.{first_manifest}
use Rattle.shard_disks.specs.declared.limits.Limits.{Limits}
use Rattle.shard_disks.specs.Mounting.{MountsDisks, RefusesDisks}
use Rattle.shard_reading.specs.declared.limits.TheConstants.{MANIFEST_BYTES, SLOT_BYTES}
use Rattle.shard_log.specs.Mounting.{Refuses}
use Rattle.shard_log.proofs.MountLemmas.{refused_at_once, refused_disks}
use Rattle.shard_log.proofs.mounting.mount_disks.Goals as goal

pub returns-in-Err-clause-refuses : goal.returns-in-Err-clause-refuses
returns-in-Err-clause-refuses g c = refused_at_once g.D.Disk.state c.args.disks.items c.args.asked g.met.D.Disk.only_now c.args.disks refl c.requires.ten

pub returns-in-Ok-mount-clause-mounts : goal.returns-in-Ok-mount-clause-mounts
returns-in-Ok-mount-clause-mounts g c =
    let limits : Limits = record { manifest = MANIFEST_BYTES; slot = SLOT_BYTES } in
    let is : c.deref.result.now ≡ first_manifest c.args.asked = c.deref.ensures.value ∙ c.in-Ok.ensures.bytes in
    subst (λ s. MountsDisks g.D.Disk.state c.args.disks.items limits s c.in-Ok-mount.mounted) is c.in-Ok-mount.ensures.mounts

pub returns-clause-refuses : goal.returns-clause-refuses
returns-clause-refuses g c =
    let is : c.deref.result.now ≡ first_manifest c.args.asked = c.deref.ensures.value ∙ c.in-Ok.ensures.bytes in
    subst (λ (m : MountRefused). Refuses g.D.Disk.state c.args.disks.items c.args.asked (c.in-Err-mount.disks, m)) (sym c.mount_refusal.ensures)
    (refused_disks g.D.Disk.state c.args.disks.items c.args.asked c.in-Err-mount.disks c.in-Err-mount.place c.in-Err-mount.why
    (subst (λ s. RefusesDisks g.D.Disk.state c.args.disks.items s (c.in-Err-mount.disks, c.in-Err-mount.place, c.in-Err-mount.why)) is c.in-Err-mount.ensures.refuses))
