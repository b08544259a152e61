use Rattle.shard_disks.specs.SlotCalls.{ArmsLog}
use Rattle.shard_disks.proofs.ListLemmas.{moved_set}
use Rattle.shard_disks.proofs.slot_calls.arm_slot.Goals as goal

pub returns : goal.returns
returns g c = record {
  moved = moved_set (ArmsLog g.D.Disk.state (g.D.Disk.arms_at c.args.call) c.arm.result) c.args.slots.now.items c.args.slot c.index_mut-log.result.now c.arm.new.self c.requires.place c.index_mut-log.ensures.value
      (record { armed = c.arm.ensures.armed; refused = c.arm.ensures.refused; stays = c.arm.ensures.stays; nothing_else = c.arm.ensures.nothing_else });
}
