-- How much room the newest generation has, by numbers alone.
use Rattle.std.specs.Prelude.{ℕ, ◌+◌, ◌^◌, Bool, ◌&&◌, nat_le, nat_lt, length}
use Rattle.topic_model.specs.Profile.{whole}
use Rattle.shard_model.specs.ShardList.{ShardList, newest, newest_messages, next_of}
use Rattle.shard_index.specs.Sound.{newest_bytes}

-- it takes so many messages more, with so many bytes in groups, and there are offsets for them
abbrev pub takes_more : ShardList → ℕ → ℕ → Bool
takes_more list count bytes =
    nat_le (length (newest_messages list) + count) (newest list).messages
    && (nat_le (newest_bytes list + bytes) whole.generation_bytes && nat_lt (next_of list + count) (2 ^ 64))
