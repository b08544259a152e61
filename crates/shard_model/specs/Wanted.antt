-- Which messages of a shard a subscription wants.
use Rattle.std.specs.Prelude.{ℕ, Bool, ◌&&◌, nat_le, List, filter}
use Rattle.std.specs.Cmp.Lexicographic.{pointwise}
use Rattle.std.specs.Str.{bytes_eq}
use Rattle.topic_model.specs.StoredMessage.{StoredMessage}
use Rattle.topic_model.specs.Matching.{matches}
use Rattle.shard_model.specs.ShardList.{ShardList}

-- at or past the start of the subscription in this shard, and of a topic that its filter matches
abbrev pub is_wanted : List (List ℕ) → ℕ → StoredMessage → Bool
is_wanted wish start m = nat_le start m.offset && matches wish m.topic

-- the wanted messages, in order
abbrev pub wanted : List (List ℕ) → ℕ → ShardList → List StoredMessage
wanted wish start list = filter (is_wanted wish start) list.messages

-- the same topic, level by level
abbrev pub same_topic : List (List ℕ) → List (List ℕ) → Bool
same_topic a b = pointwise bytes_eq a b

-- those of one topic
abbrev pub wanted_of_topic : List (List ℕ) → ℕ → ShardList → List (List ℕ) → List StoredMessage
wanted_of_topic wish start list topic = filter (λ m. same_topic m.topic topic) (wanted wish start list)
