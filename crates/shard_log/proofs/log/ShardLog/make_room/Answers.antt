use Rattle.std.proofs.Common.{rules, ◌≡◌, subst}
use Rattle.shard_disks.specs.Outline.{slot_in, with_slot}
use Rattle.shard_disks.specs.PlainDisks.{outline}
use Rattle.shard_log.specs.PlainShardLog.{PlainShardLog, own_slot}
use Rattle.shard_log.proofs.WriteLemmas.{kept_roomier}
use Rattle.shard_log.proofs.log.ShardLog.make_room.Goals as goal

pub invariant_of-self : goal.invariant_of-self
invariant_of-self g c =
    let old : PlainShardLog g.row.D.Denot = record { disks = c.self.inside.disks; index = c.self.inside.index; unshown = c.self.inside.unshown.items; asked = c.self.inside.asked } in
    let slot : c.slot-slot.result ≡ own_slot old = search rules in
    let roomier = subst (λ n. outline c.reserve.new.self ≡ with_slot n (record (slot_in (outline c.self.inside.disks) n) { spare = (slot_in (outline c.reserve.new.self) n).spare }) (outline c.self.inside.disks)) slot c.reserve.ensures.stays in
    kept_roomier g.D.Disk.state old c.reserve.new.self c.self.invariant c.doubted-eight.ensures.eight roomier c.reserve.ensures.disks
