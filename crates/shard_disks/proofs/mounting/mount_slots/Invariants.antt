use Rattle.std.proofs.Common.{◌≡◌, ◌+◌, ◌≤◌, length, vec_capacity, vec_len}
use Rattle.shard_disks.proofs.MountedLemmas.{AreMounted}
use Rattle.shard_disks.proofs.mounting.mount_slots.Given as goal

abbrev pub invariant-next : goal.invariant-next
invariant-next g l = record {
  so_far : AreMounted g.D.Disk.state l.limit l.initial.disks.items l.disks.items l.slots.items;
  room : vec_len l.slots + length l.disks.items ≤ vec_capacity l.slots;
  capacity : vec_capacity l.disks ≡ vec_capacity l.initial.disks;
}

abbrev pub decreases-next : goal.decreases-next
decreases-next g l = vec_len l.disks
