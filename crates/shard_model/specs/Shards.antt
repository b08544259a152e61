-- When a shard is in order, and which move shows.
use Rattle.std.specs.Prelude.{Bool, true, false}
use Rattle.shard_model.specs.Growing.{HasGrown}
use Rattle.shard_model.specs.Lists.{IsList}
use Rattle.shard_model.specs.ShardMoves.{Shard, ShardMove, Show}

-- What is stored and what is shown are lists in order, and what is stored has grown from what is shown.
pub record IsShard (s : Shard) : Type 0 where
  pub stored : IsList s.stored
  pub shown : IsList s.shown
  pub grown : HasGrown s.shown s.stored

abbrev pub is_show : ShardMove → Bool
is_show Show = true
is_show other = false
