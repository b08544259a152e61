-- What holds of every index.
use Rattle.std.specs.Prelude.{◌≡◌, ℕ, ◌+◌, ◌<◌, ◌^◌}
use Rattle.std.specs.List.{sum_by}
use Rattle.topic_model.specs.Profile.{whole}
use Rattle.shard_model.specs.ShardList.{ShardList, next_of, newest_messages}
use Rattle.shard_model.specs.Lists.{IsList}
use Rattle.shard_model.specs.Capacity.{store_size}

-- the bytes that the messages of the newest generation take in groups
abbrev pub newest_bytes : ShardList → ℕ
newest_bytes list = sum_by store_size (newest_messages list)

-- The list is in order, its next offset has eight bytes, and the newest generation has this room left.
pub record IsSound (list : ShardList) (left : ℕ) : Type 0 where
  pub order : IsList list
  pub end : next_of list < 2 ^ 64
  pub room : left + newest_bytes list ≡ whole.generation_bytes
