use Rattle.shard_disks.specs.SlotCalls.{SettlesLog}
use Rattle.shard_disks.proofs.ListLemmas.{moved_set}
use Rattle.shard_disks.proofs.slot_calls.settle_slot.Goals as goal

pub returns : goal.returns
returns g c =
    let e = c.settle.ensures in
    record {
      moved = moved_set (SettlesLog g.D.Disk.state c.settle.result) c.args.slots.now.items c.args.slot c.index_mut-log.result.now c.settle.new.self c.requires.place c.index_mut-log.ensures.value
          (record {
            exact = e.exact;
            in_after = e.in_after;
            in_stays = e.in_stays;
            out_stays = e.out_stays;
            fault_stays = e.fault_stays;
            rests = e.rests;
            only_fault = e.only_fault;
            writes_none = e.writes_none;
            called = record { tells = e.run.tells; arms = e.run.arms; any_moment = e.any_moment; images = e.images; cause = e.cause };
          });
    }
