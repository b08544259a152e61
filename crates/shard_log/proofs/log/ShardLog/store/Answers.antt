use Rattle.shard_index.specs.Absorbing.{absorbed_all}
use Rattle.shard_log.specs.PlainShardLog.{shown}
use Rattle.shard_log.proofs.StoreLemmas.{store_failed, store_nothing, store_shown, store_unroomed}
use Rattle.shard_log.proofs.log.ShardLog.store.Goals as goal

pub returns-in-Err : goal.returns-in-Err
returns-in-Err g c = record { stores = store_nothing g.D.Disk.state c.args.self.now c.requires.rests (absorbed_all c.args.stored.ops.items (shown c.args.self.now)) }

pub returns-then-is_err : goal.returns-then-is_err
returns-then-is_err g c = record {
  stores = store_unroomed g.D.Disk.state c.args.self.now c.requires.rests c.make_room.new.self c.make_room.result c.make_room.ensures.room
      (absorbed_all c.args.stored.ops.items (shown c.args.self.now));
}

pub returns-in-Ok-write : goal.returns-in-Ok-write
returns-in-Ok-write g c = record {
  stores = store_shown g.D.Disk.state c.args.self.now c.requires.rests c.make_room.new.self c.make_room.result c.make_room.ensures.room c.in-Ok.draft c.args.stored.ops.items c.write.new.self
      c.show.new.self c.show.result c.in-Ok-write.ensures.writes c.show.ensures.shows;
}

pub returns : goal.returns
returns g c = record {
  stores = store_failed g.D.Disk.state c.args.self.now c.requires.rests c.make_room.new.self c.make_room.result c.make_room.ensures.room c.in-Ok.draft c.args.stored.ops.items c.write.new.self
      c.in-Err-write.why c.in-Err-write.ensures.writes;
}
