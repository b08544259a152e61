-- Of each topic a subscription has been issued a prefix of what it wants.
use Rattle.std.specs.Prelude.{ℕ, ◌≡◌, ◌<◌, Bool, ◌&&◌, ◌==◌, nat_le, List, ◌++◌, map, filter, All}
use Rattle.std.specs.List.{list_any}
use Rattle.topic_model.specs.StoredMessage.{StoredMessage}
use Rattle.shard_model.specs.ShardList.{ShardList, floor_of, next_of}
use Rattle.shard_model.specs.Wanted.{wanted_of_topic, same_topic}
use Rattle.session_model.specs.declared.entry.Entry.{Entry}
use Rattle.session_model.specs.PlainSession.{PlainSession, Subscription}

-- the offsets that a session was issued for a subscription in a shard, in the order of issue, and those at or above a
-- floor
abbrev pub is_entry_for : ℕ → ℕ → Entry → Bool
is_entry_for subscription shard e = (e.subscription == subscription) && (e.shard == shard)

abbrev pub issued_offsets : PlainSession → ℕ → ℕ → List ℕ
issued_offsets m subscription shard = map (λ (e : Entry). e.offset) (filter (is_entry_for subscription shard) m.issued)

abbrev pub at_or_above : ℕ → List ℕ → List ℕ
at_or_above floor offsets = filter (λ (o : ℕ). nat_le floor o) offsets

-- the message at this offset has this topic
abbrev pub has_topic : ShardList → List (List ℕ) → ℕ → Bool
has_topic list topic offset = list_any
    (λ (m : StoredMessage). (m.offset == offset) && same_topic m.topic topic) list.messages

abbrev pub issued_of_topic : PlainSession → ℕ → ℕ → ShardList → List (List ℕ) → List ℕ
issued_of_topic m subscription shard list topic =
    filter (has_topic list topic) (at_or_above (floor_of list) (issued_offsets m subscription shard))

-- the first list begins the second
abbrev pub IsPrefixOf : List ℕ → List ℕ → Type 0
IsPrefixOf xs ys = (rest : List ℕ) × (xs ++ rest ≡ ys)

-- For a subscription that starts at this offset in the shard: what was issued of a topic is a prefix of what is wanted
-- of it, and no offset was issued that the list doesn't have yet.
pub record IsIssuedPrefix (m : PlainSession) (sub : Subscription) (shard start : ℕ) (list : ShardList)
    (topic : List (List ℕ)) : Type 0 where
  pub prefix : IsPrefixOf (issued_of_topic m sub.number shard list topic)
      (map (λ (w : StoredMessage). w.offset) (wanted_of_topic sub.filter start list topic))
  pub stored : All (λ (o : ℕ). o < next_of list) (issued_offsets m sub.number shard)
