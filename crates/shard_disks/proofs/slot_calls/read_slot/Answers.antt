use Rattle.shard_disks.specs.SlotCalls.{IsLogRead}
use Rattle.shard_disks.proofs.ListLemmas.{moved_set}
use Rattle.shard_disks.proofs.slot_calls.read_slot.Goals as goal

pub returns-clause-moved : goal.returns-clause-moved
returns-clause-moved g c =
    let e = c.entry.ensures in
    moved_set (IsLogRead g.D.Disk.state c.args.k c.args.out.now.items c.entry.new.out.items c.entry.result) c.args.slots.now.items c.args.slot c.index_mut-log.result.now c.entry.new.self c.requires.place c.index_mut-log.ensures.value
    (record {
      bytes = e.entry;
      called = record { tells = e.run.tells; arms = e.run.arms; any_moment = e.any_moment; images = e.images; cause = e.cause };
      stays = e.stays;
      writes_none = e.writes_none;
    })
