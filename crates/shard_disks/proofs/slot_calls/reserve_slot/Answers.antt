use Rattle.shard_disks.specs.SlotCalls.{HasMoreRoom}
use Rattle.shard_disks.proofs.ListLemmas.{moved_set}
use Rattle.shard_disks.proofs.slot_calls.reserve_slot.Goals as goal

pub returns : goal.returns
returns g c = record {
  moved = moved_set (HasMoreRoom c.reserve.result) c.args.slots.now.items c.args.slot c.index_mut-log.result.now c.reserve.new.self c.requires.place c.index_mut-log.ensures.value
      (record { stays = c.reserve.ensures.stays; room = c.reserve.ensures.room; more = c.reserve.ensures.more });
}
