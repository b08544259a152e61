-- How many bytes of records a generation can still take, by its list.
use Rattle.std.specs.Prelude.{ℕ, ◌+◌, ◌-◌, ◌*◌, ◌≡◌, length, refl}
use Rattle.topic_model.specs.Profile.{whole, default_config}
use Rattle.shard_model.specs.ShardList.{ShardList, newest, newest_messages, opening_list}
use Rattle.shard_index.specs.Sound.{newest_bytes}

-- An operation that takes an awaited identifier away has at most 65,548 bytes, and a record has 16 besides its operations, of which there
-- is one at least. A Store has at most `store_size` and 16 bytes so, and may add one awaited identifier.
abbrev pub awaited_share : ℕ
awaited_share = 65564

abbrev pub message_share : ℕ
message_share = 65580

-- the bytes of Stores that are left, what can be taken away of what is awaited, and what can become awaited and be taken away again
abbrev pub potential : ShardList → ℕ
potential list =
    (whole.generation_bytes - newest_bytes list)
    + awaited_share * length list.awaited
    + message_share * ((newest list).messages - length (newest_messages list))

-- ---- examples

new_shard : potential (opening_list default_config) ≡ 2165702656
new_shard = refl
