use Rattle.shard_disks.specs.PlainDisks.{all_disks}
use Rattle.shard_log.specs.PlainShardLog.{PlainShardLog}
use Rattle.shard_log.proofs.ArmLemmas.{armed_tells, arms_are}
use Rattle.shard_log.proofs.SettleLemmas.{kept_same}
use Rattle.shard_log.proofs.log.ShardLog.arm.Goals as goal

pub invariant_of-self : goal.invariant_of-self
invariant_of-self g c =
    let old : PlainShardLog g.row.D.Denot = record { disks = c.self.inside.disks; index = c.self.inside.index; unshown = c.self.inside.unshown.items; asked = c.self.inside.asked } in
    kept_same g.D.Disk.state old c.self.invariant c.arm.new.self c.arm.ensures.stays (armed_tells g.D.Disk.state (all_disks c.self.inside.disks) (all_disks c.arm.new.self) c.arm.ensures.nothing_else)

pub returns : goal.returns
returns g c =
    let old : PlainShardLog g.row.D.Denot = record { disks = c.self.inside.disks; index = c.self.inside.index; unshown = c.self.inside.unshown.items; asked = c.self.inside.asked } in
    rw (← c.self.view_is) (record {
      arms = arms_are g.D.Disk.state old c.self.invariant (g.D.Disk.arms_at c.args.call) c.args.place c.arm.new.self c.arm.result c.arm.ensures.armed c.arm.ensures.refused c.arm.ensures.stays
          c.arm.ensures.nothing_else c.arm.ensures.any_moment;
    })
