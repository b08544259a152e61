use Rattle.std.proofs.Common.{◌≡◌, ◌+◌, ◌∷◌, [], arith, ap, length, ◌∙◌, length-append}
use Rattle.shard_disks.proofs.MountedLemmas.{next_mounted, then_stopped}
use Rattle.shard_disks.proofs.mounting.mount_slots.Goals as goal

pub returns-in-Err-clause-stopped : goal.returns-in-Err-clause-stopped
returns-in-Err-clause-stopped g c =
    then_stopped g.D.Disk.state c.args.limit c.args.disks.now.items c.next.disks.items c.mount_next.new.disks.items c.next.slots.items c.mount_next.new.slots.items c.in-Err.refused
    c.next.invariant.so_far c.in-Err.ensures.slots c.in-Err.ensures.stopped

pub next-preserved : goal.next-preserved
next-preserved g c =
    let n = c.in_default.ensures.next in
    let one_less : length c.next.disks.items ≡ length c.mount_next.new.disks.items + 1 = omega (arith, ap length n.was_first) in
    let one_more : length c.mount_next.new.slots.items ≡ length c.next.slots.items + 1 = omega (arith, ap length n.is_last, length-append c.next.slots.items (n.new ∷ [])) in
    record {
      so_far = next_mounted g.D.Disk.state c.args.limit c.args.disks.now.items c.next.disks.items c.mount_next.new.disks.items c.next.slots.items c.mount_next.new.slots.items c.next.invariant.so_far n;
      room = omega (arith, c.next.slots.ok.0, c.mount_next.new.slots.ok.0, c.next.invariant.room, c.in_default.ensures.room, one_less, one_more);
      capacity = c.in_default.ensures.capacity ∙ c.next.invariant.capacity;
    }
