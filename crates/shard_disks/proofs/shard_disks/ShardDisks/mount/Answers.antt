use Rattle.std.proofs.Common.{◌≡◌, ◌+◌, [], ◌∷◌, ◌++◌, arith, length, ap, subst, sym, ◌∙◌}
use Rattle.shard_disks.specs.Mounting.{RefusesDisks}
use Rattle.shard_disks.proofs.HistoryLemmas.{begun_alone}
use Rattle.shard_disks.proofs.MountsLemmas.{mounted_disks, mounts}
use Rattle.shard_disks.proofs.RefuseLemmas.{logs_then, none_mounted, pair_refused, slot_refused}
use Rattle.shard_disks.proofs.shard_disks.ShardDisks.mount.Goals as goal

pub returns-in-Err-clause-refuses : goal.returns-in-Err-clause-refuses
returns-in-Err-clause-refuses g c = none_mounted g.D.Disk.state g.met.D.Disk.only_now c.args.snapshot.now c.args.disks c.requires.ten

pub returns-in-Err-mount_manifest-clause-refuses : goal.returns-in-Err-mount_manifest-clause-refuses
returns-in-Err-mount_manifest-clause-refuses g c =
    pair_refused g.D.Disk.state g.met.D.Disk.only_now g.met.D.Disk.reads_as_image g.met.D.Disk.counts_now c.args.snapshot.now c.args.disks.items c.mount_manifest.new.disks c.in-Err-mount_manifest.place c.in-Err-mount_manifest.why c.requires.ten
    c.in-Err-mount_manifest.ensures.refuses

pub invariant_of-result : goal.invariant_of-result
invariant_of-result g c = (
  mounted_disks g.D.Disk.state c.args.disks.items c.mount_manifest.new.disks.items c.args.limits c.args.snapshot.now c.in-Ok-mount_manifest.manifest c.mount_slots.new.slots.items
      c.in-Ok-mount_manifest.ensures.mounts c.in-Ok-mount_slots.ensures.mounted c.requires.ten g.met.D.Disk.sized,
  record {
    empty = c.in-Ok-mount_slots.ensures.taken;
    enough = omega (arith, c.in-Ok-mount_slots.ensures.capacity, c.in-Ok-mount_manifest.ensures.capacity, c.args.disks.ok.0, c.args.disks.ok.1, c.requires.ten);
  },
)

pub overflow_cast-place : goal.overflow_cast-place
overflow_cast-place g c =
    let few : length c.mount_slots.new.slots.items + (1 + length c.mount_slots.new.disks.items) ≡ 8 =
    logs_then g.D.Disk.state c.args.snapshot.now c.args.disks.items c.mount_manifest.new.disks.items c.mount_slots.new.disks.items c.args.limits.manifest c.args.limits.slot c.in-Ok-mount_manifest.manifest
    c.mount_slots.new.slots.items (c.in-Err-mount_slots.refused, c.in-Err-mount_slots.why) c.requires.ten c.in-Ok-mount_manifest.ensures.mounts c.in-Err-mount_slots.ensures.stopped in
    omega (arith, few, c.len.ensures, c.mount_slots.new.slots.ok.0)

pub overflow_add-place : goal.overflow_add-place
overflow_add-place g c =
    let few : length c.mount_slots.new.slots.items + (1 + length c.mount_slots.new.disks.items) ≡ 8 =
    logs_then g.D.Disk.state c.args.snapshot.now c.args.disks.items c.mount_manifest.new.disks.items c.mount_slots.new.disks.items c.args.limits.manifest c.args.limits.slot c.in-Ok-mount_manifest.manifest
    c.mount_slots.new.slots.items (c.in-Err-mount_slots.refused, c.in-Err-mount_slots.why) c.requires.ten c.in-Ok-mount_manifest.ensures.mounts c.in-Err-mount_slots.ensures.stopped in
    omega (arith, few, c.len.ensures, c.mount_slots.new.slots.ok.0)

pub handed_back-requires : goal.handed_back-requires
handed_back-requires g c =
    let few : length c.mount_slots.new.slots.items + (1 + length c.mount_slots.new.disks.items) ≡ 8 =
    logs_then g.D.Disk.state c.args.snapshot.now c.args.disks.items c.mount_manifest.new.disks.items c.mount_slots.new.disks.items c.args.limits.manifest c.args.limits.slot c.in-Ok-mount_manifest.manifest
    c.mount_slots.new.slots.items (c.in-Err-mount_slots.refused, c.in-Err-mount_slots.why) c.requires.ten c.in-Ok-mount_manifest.ensures.mounts c.in-Err-mount_slots.ensures.stopped in
    omega (arith, few, c.mount_slots.new.disks.ok.0, c.in-Err-mount_slots.ensures.capacity, c.in-Ok-mount_manifest.ensures.capacity, c.args.disks.ok.0, c.args.disks.ok.1, c.requires.ten)

pub returns-in-Ok-mount_slots-clause-mounts : goal.returns-in-Ok-mount_slots-clause-mounts
returns-in-Ok-mount_slots-clause-mounts g c =
    mounts g.D.Disk.state c.args.disks.items c.mount_manifest.new.disks.items c.args.limits c.args.snapshot.now c.in-Ok-mount_manifest.manifest c.mount_slots.new.slots.items
    c.in-Ok-mount_manifest.ensures.mounts c.in-Ok-mount_slots.ensures.mounted c.requires.ten g.met.D.Disk.sized g.met.D.Disk.only_now g.met.D.Disk.reads_as_image _
    (begun_alone c.and_both-begun.result.items c.new-in-Ok-mount_slots.result.items (c.in-Ok-mount_manifest.manifest, c.mount_manifest.new.disks)
    (c.and_both-begun.ensures ∙ ap (λ l. l ++ (c.in-Ok-mount_manifest.manifest, c.mount_manifest.new.disks) ∷ []) c.new.ensures) c.new-in-Ok-mount_slots.ensures)

pub returns-in-Err-mount_slots-clause-refuses : goal.returns-in-Err-mount_slots-clause-refuses
returns-in-Err-mount_slots-clause-refuses g c =
    subst (λ n. RefusesDisks g.D.Disk.state c.args.disks.items c.args.snapshot.now (c.handed_back.result, 2 + n, c.in-Err-mount_slots.why)) (sym (c.len.ensures ∙ c.mount_slots.new.slots.ok.0))
    (slot_refused g.D.Disk.state g.met.D.Disk.only_now g.met.D.Disk.reads_as_image g.met.D.Disk.counts_now c.args.snapshot.now c.args.disks.items c.mount_manifest.new.disks.items c.mount_slots.new.disks.items c.args.limits.manifest c.args.limits.slot c.in-Ok-mount_manifest.manifest
    c.mount_slots.new.slots.items c.in-Err-mount_slots.refused c.in-Err-mount_slots.why c.handed_back.result c.requires.ten c.in-Ok-mount_manifest.ensures.mounts c.in-Err-mount_slots.ensures.stopped c.handed_back.ensures)
