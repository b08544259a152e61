-- What a call leaves of the log of one shard.
use Rattle.std.specs.Prelude.{ℕ, List, Result}
use Rattle.outside.specs.DiskModel.{DiskState}
use Rattle.shard_index.specs.declared.refused.AppendRefused.{AppendRefused}
use Rattle.shard_index.specs.KeptIndex.{ToldReceipt}
use Rattle.record_codec.specs.declared.group.Op.{Op}
use Rattle.shard_log.specs.Appending.{Appends, Ticks}
use Rattle.shard_log.specs.PlainShardLog.{PlainShardLog, shown}
use Rattle.shard_views.specs.Views.{IsLater}

-- It is an append of its log, and what is shown has grown.
pub record AppendsLater {D : Type 0} (state : D → DiskState) (ops : List Op) (now : ℕ) (result : Result ToldReceipt AppendRefused) (old new : PlainShardLog D) : Type 0 where
  pub appends : Appends state ops now old new result
  pub later : IsLater (shown old) (shown new)

-- It is a tick of its log, and what is shown has grown.
pub record TicksLater {D : Type 0} (state : D → DiskState) (result : Result Unit AppendRefused) (old new : PlainShardLog D) : Type 0 where
  pub ticks : Ticks state old new result
  pub later : IsLater (shown old) (shown new)
