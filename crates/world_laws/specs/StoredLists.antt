-- What is to hold of the lists of the shards, and of all that was ever stored.
use Rattle.std.specs.Prelude.{ℕ, ◌≡◌, ◌<◌, ◌⊎◌, Bool, true, false, List, ◌++◌, drop, length, slice_get, Some}
use Rattle.topic_model.specs.StoredMessage.{StoredMessage}
use Rattle.topic_model.specs.Places.{HasPlace}
use Rattle.shard_model.specs.ShardList.{ShardList, Awaited, floor_of, next_of, message_at}
use Rattle.shard_model.specs.Storing.{is_message_of, same_triple}
use Rattle.shard_model.specs.Growing.{HasGrown}
use Rattle.shard_model.specs.Lists.{IsList}
use Rattle.shard_model.specs.Shards.{IsShard}
use Rattle.shard_model.specs.ShardMoves.{if_drop}
use Rattle.turn_model.specs.Worker.{Worker}
use Rattle.world_model.specs.World.{World, WorldShard}
use Rattle.world_laws.specs.Reached.{HasShard, HasWorker}

-- ---- lists grow

-- Each shard's lists are in order, and what is stored has grown from what is shown. Each worker has seen a list of each
-- shard, in order, from which what is shown has grown.
pub record AreGrown (w : World) : Type 0 where
  pub shards : (shard : ℕ) (s : WorldShard) → HasShard w shard s → IsShard s.shard
  pub many : (worker : ℕ) (k : Worker) → HasWorker w worker k → length k.seen ≡ length w.shards
  pub seen : (worker shard : ℕ) (k : Worker) (s : WorldShard) (list : ShardList) → HasWorker w worker k →
      HasShard w shard s → slice_get k.seen shard ≡ Some list → IsList list × HasGrown list s.shard.shown

-- ---- all that was ever stored

-- The message with an offset stands at that place of all that a shard ever stored. What its list still holds is what
-- stands there from the floor on.
pub record IsAllEver (s : WorldShard) : Type 0 where
  pub offsets : (offset : ℕ) (m : StoredMessage) → slice_get s.ever offset ≡ Some m → m.offset ≡ offset
  pub held : drop (floor_of s.shard.stored) s.ever ≡ s.shard.stored.messages
  pub next : length s.ever ≡ next_of s.shard.stored

-- ---- nothing is taken away

-- Behind a move, whatever it is, a crash too, each message that was stored is stored still, or lies below the floor;
-- and the floor rises only where a drop pended.
pub record TakesNothing (s later : WorldShard) : Type 0 where
  pub messages : (offset : ℕ) (m : StoredMessage) → message_at s.shard.stored offset ≡ Some m →
      (message_at later.shard.stored offset ≡ Some m) ⊎ (offset < floor_of later.shard.stored)
  pub floor : if_drop s.shard.pending ≡ false → floor_of later.shard.stored ≡ floor_of s.shard.stored
  pub ever : (more : List StoredMessage) × (later.ever ≡ s.ever ++ more)

-- ---- QoS 2 is stored once (MQTT 4.3.3)

-- An identifier is awaited once, and its message is among all that was ever stored.
pub record AreAwaited (s : WorldShard) : Type 0 where
  pub once : (i j : ℕ) (a b : Awaited) → slice_get s.shard.stored.awaited i ≡ Some a →
      slice_get s.shard.stored.awaited j ≡ Some b → same_triple a b ≡ true → i ≡ j
  pub stored : (a : Awaited) → HasPlace s.shard.stored.awaited a → (m : StoredMessage) × HasPlace s.ever m
      × (is_message_of a m ≡ true)

-- While an identifier is awaited no move stores another message of it: those that stand behind a move stood there
-- before.
abbrev pub StoresNoOther : WorldShard → WorldShard → Type 0
StoresNoOther s later =
    (a : Awaited) (place : ℕ) (m : StoredMessage) → HasPlace s.shard.stored.awaited a →
    slice_get later.ever place ≡ Some m → is_message_of a m ≡ true → slice_get s.ever place ≡ Some m
