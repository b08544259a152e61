use Rattle.std.proofs.Common.{◌≡◌, ap, subst, [], ◌∷◌}
use Rattle.pair_log.specs.PlainPair.{first_disk, second_disk}
use Rattle.shard_disks.specs.Outline.{slot_in, with_slot}
use Rattle.shard_disks.specs.PlainDisks.{PlainDisks, outline}
use Rattle.shard_disks.proofs.RoomLemmas.{roomier_disks, roomier_more, roomier_outline, roomier_room, roomier_same}
use Rattle.shard_disks.proofs.shard_disks.ShardDisks.reserve.Goals as goal

pub invariant_of-self : goal.invariant_of-self
invariant_of-self g c = (
  roomier_disks g.D.Disk.state c.self.inside.manifest c.self.inside.slots.items c.reserve_slot.new.slots.items c.self.inside.doubted c.reserve_slot.result c.args.slot c.self.invariant.0 c.reserve_slot.ensures.moved,
  c.self.invariant.1,
)

pub returns-clause-stays : goal.returns-clause-stays
returns-clause-stays g c =
    let now : PlainDisks g.row.D.Denot = record { manifest = c.self.inside.manifest; slots = c.reserve_slot.new.slots.items; doubted = c.self.inside.doubted; past = [] } in
    subst (λ (d : PlainDisks g.row.D.Denot). outline now ≡ with_slot c.args.slot (record (slot_in (outline d) c.args.slot) { spare = (slot_in (outline now) c.args.slot).spare }) (outline d)) c.self.view_is
    (ap (λ l. record (outline now) { slots = l }) (roomier_outline c.reserve_slot.result c.args.slot c.self.inside.slots.items c.reserve_slot.new.slots.items c.reserve_slot.ensures.moved))

pub returns-clause-disks : goal.returns-clause-disks
returns-clause-disks g c = rw (← c.self.view_is)
    (ap (λ l. first_disk c.self.inside.manifest ∷ (second_disk c.self.inside.manifest ∷ l)) (roomier_same c.reserve_slot.result c.args.slot c.self.inside.slots.items c.reserve_slot.new.slots.items c.reserve_slot.ensures.moved))

pub returns-clause-room : goal.returns-clause-room
returns-clause-room g c = roomier_room c.reserve_slot.result c.args.slot c.self.inside.slots.items c.reserve_slot.new.slots.items c.reserve_slot.ensures.moved

pub returns-clause-more : goal.returns-clause-more
returns-clause-more g c = rw (← c.self.view_is) (roomier_more c.reserve_slot.result c.args.slot c.self.inside.slots.items c.reserve_slot.new.slots.items c.reserve_slot.ensures.moved)
