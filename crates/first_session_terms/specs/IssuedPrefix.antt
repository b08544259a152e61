-- Of each topic a subscription has been issued a prefix of what it wants.
use Rattle.std.specs.Prelude.{ℕ, ◌≡◌, Bool, ◌&&◌, ◌==◌, nat_le, List, ◌++◌, map, filter}
use Rattle.std.specs.List.{list_any}
use Rattle.first_topic_name.specs.StoredMessage.{StoredMessage}
use Rattle.first_shard_terms.specs.ShardList.{ShardList, floor_of}
use Rattle.first_shard_terms.specs.Wanted.{wanted_of_topic, same_topic}
use Rattle.first_session_terms.specs.declared.entry.Entry.{Entry}
use Rattle.first_session_terms.specs.PlainSession.{PlainSession, Subscription}

-- the offsets that a session was issued for a subscription in a shard, at or above the list's floor, in order of issue
abbrev pub issued_offsets : PlainSession → ℕ → ℕ → ShardList → List ℕ
issued_offsets m subscription shard list =
    map (λ (e : Entry). e.offset) (filter (λ (e : Entry). ((e.subscription == subscription) && (e.shard == shard)) && nat_le (floor_of list) e.offset) m.issued)

-- the message at this offset has this topic
abbrev pub has_topic : ShardList → List (List ℕ) → ℕ → Bool
has_topic list topic offset = list_any (λ (m : StoredMessage). (m.offset == offset) && same_topic m.topic topic) list.messages

-- those of them whose message has this topic
abbrev pub issued_of_topic : PlainSession → ℕ → ℕ → ShardList → List (List ℕ) → List ℕ
issued_of_topic m subscription shard list topic = filter (has_topic list topic) (issued_offsets m subscription shard list)

-- the first list begins the second
abbrev pub IsPrefixOf : List ℕ → List ℕ → Type 0
IsPrefixOf xs ys = (rest : List ℕ) × (xs ++ rest ≡ ys)

-- the issued offsets of a topic are a prefix of the wanted ones, for a subscription that starts at this offset
abbrev pub IsIssuedPrefix : PlainSession → Subscription → ℕ → ℕ → ShardList → List (List ℕ) → Type 0
IsIssuedPrefix m sub shard start list topic =
    IsPrefixOf (issued_of_topic m sub.number shard list topic) (map (λ (w : StoredMessage). w.offset) (wanted_of_topic sub.filter start list topic))
