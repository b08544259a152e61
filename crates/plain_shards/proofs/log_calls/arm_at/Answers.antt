use Rattle.std.proofs.Common.{ap}
use Rattle.shard_log.specs.Appending.{Arms}
use Rattle.shard_log.specs.PlainShardLog.{PlainShardLog}
use Rattle.plain_shards.specs.KeptShards.{asked_of}
use Rattle.plain_shards.proofs.ListLemmas.{moved_same, moved_set}
use Rattle.plain_shards.proofs.log_calls.arm_at.Goals as goal

pub returns : goal.returns
returns g c =
    let logs = c.args.logs.now.items in
    let log = c.index_mut-log.result.now in
    let R = (λ (old new : PlainShardLog g.row.D.Denot). Arms g.D.Disk.state (g.D.Disk.arms_at c.args.call) c.args.disk old new c.arm.result) in
    let moved = moved_set R logs c.args.shard log c.arm.new.self c.requires.place c.index_mut-log.ensures.value c.arm.ensures.arms in
    record { moved = moved; asked = moved_same asked_of R (λ old new arms. ap asked_of arms.stays) c.args.shard logs _ moved }
