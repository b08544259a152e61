use Rattle.std.proofs.Common.{ap, ◌∙◌}
use Rattle.shard_model.specs.ShardList.{next_of}
use Rattle.shard_log.specs.PlainShardLog.{PlainShardLog, shown}
use Rattle.shard_log.proofs.AnswerLemmas.{appends_err, appends_not, appends_ok}
use Rattle.shard_log.proofs.log.ShardLog.append.Goals as goal

pub returns-in-Err : goal.returns-in-Err
returns-in-Err g c = record { appends = appends_not g.D.Disk.state c.args.ops.now c.args.now c.args.self.now c.tick.new.self c.in-Err.why c.in-Err.ensures.ticks }

pub returns-in-Ok : goal.returns-in-Ok
returns-in-Ok g c = record {
  appends = appends_ok g.D.Disk.state c.args.ops.now c.args.now c.args.self.now c.tick.new.self c.in_default.ensures.ticks c.store_group.new.self c.receipt.result c.next_offset-first.result
      (c.next_offset-first.ensures ∙ ap (λ (s : PlainShardLog g.row.D.Denot). next_of (shown s)) c.self.view_is) c.receipt.ensures c.doubt-images.ensures.images c.in-Ok.ensures.follows;
}

pub returns-in-Err-store_group : goal.returns-in-Err-store_group
returns-in-Err-store_group g c = record {
  appends = appends_err g.D.Disk.state c.args.ops.now c.args.now c.args.self.now c.tick.new.self c.in_default.ensures.ticks c.store_group.new.self c.in-Err-store_group.why
      c.in-Err-store_group.ensures.follows;
}
