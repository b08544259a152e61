-- The streams of a generation. Topics are not learned yet, so a generation has the one stream 0.
use Rattle.std.specs.Prelude.{ℕ}
use Rattle.first_topic_name.specs.StoredMessage.{StoredMessage}
use Rattle.first_shard_terms.specs.ShardList.{ShardList, Cut}

-- the stream that a message of this list lies in
abbrev pub stream_of : ShardList → StoredMessage → ℕ
stream_of list m = 0

-- how many streams a generation has
abbrev pub stream_count : ShardList → Cut → ℕ
stream_count list cut = 1
