use Rattle.std.proofs.Common.{◌≡◌, ◌+◌, ◌≤◌, ◌++◌, length, map, vec_capacity, vec_len}
use Rattle.shard_disks.specs.PlainDisks.{disk_of}
use Rattle.shard_disks.proofs.mounting.append_disks.Given as goal

abbrev pub invariant-loop-slots : goal.invariant-loop-slots
invariant-loop-slots g l = record {
  disks : l.disks.items ++ map disk_of l.slots.items ≡ l.initial.disks.items ++ map disk_of l.initial.slots.items;
  room : vec_len l.disks + length l.slots.items ≤ vec_capacity l.disks;
  capacity : vec_capacity l.disks ≡ vec_capacity l.initial.disks;
}

abbrev pub decreases-loop-slots : goal.decreases-loop-slots
decreases-loop-slots g l = vec_len l.slots
