use Rattle.shard_log.proofs.AnswerLemmas.{ticks, ticks_not}
use Rattle.shard_log.proofs.log.ShardLog.tick.Goals as goal

pub returns-in-Ok : goal.returns-in-Ok
returns-in-Ok g c = record { ticks = ticks g.D.Disk.state c.args.self.now c.settle.new.self c.show.new.self c.show.result c.in-Ok.ensures.settles c.show.ensures.shows }

pub returns-in-Err : goal.returns-in-Err
returns-in-Err g c = record { ticks = ticks_not g.D.Disk.state c.args.self.now c.settle.new.self c.in-Err.why c.in-Err.ensures.settles }
