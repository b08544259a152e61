-- All that the broker is between two steps: shards that store, workers that keep sessions.
use Rattle.std.specs.Prelude.{ℕ, List, [], Option, None, replicate}
use Rattle.first_shard_terms.specs.ShardList.{ShardList, Op, opening_list}
use Rattle.first_session_terms.specs.PlainSession.{PlainSession}
use Rattle.first_session_terms.specs.Change.{Change, act_all}
use Rattle.first_mqtt_packet.specs.declared.packet.Packet.{Packet}
use Rattle.first_session_core.specs.PlainConnection.{PlainConnection}
use Rattle.first_session_core.specs.Pump.{Issue}

-- How many shards and workers there are, the values that a new generation takes, and how long a sealed one is kept.
pub record Config : Type 0 where
  pub shards : ℕ
  pub workers : ℕ
  pub top : ℕ
  pub below : ℕ
  pub messages : ℕ
  pub retention : ℕ

-- What a worker answers once the record or the group that it waits for stands: packets of a connection, a message of a
-- shard that is acknowledged thereby, and what the pump of a connection delivered.
pub data Answer : Type 0 where
  Replies : ℕ → List Packet → Answer
  Stored : ℕ → List Packet → ℕ → ℕ → Answer
  Delivers : ℕ → Issue → Answer

-- A group that is about to be stored, at a moment, for a worker that answers it.
pub record Group : Type 0 where
  pub ops : List Op
  pub now : ℕ
  pub worker : ℕ
  pub answer : Answer

-- What a shard has stored, what its readers may see, and the group that pends.
pub record Shard : Type 0 where
  pub stored : ShardList
  pub shown : ShardList
  pub pending : Option Group

-- A record that is about to be committed: the owed changes, then its own, and what it answers.
pub record PendingRecord : Type 0 where
  pub changes : List Change
  pub answers : List Answer

-- What pumps put out on connections, and where a connection was bound.
pub data Delivered : Type 0 where
  BoundHere : ℕ → Delivered
  DeliveredOn : ℕ → List Packet → Delivered

-- The committed sessions in order of creation, the changes that the next record begins with, the number of the next
-- session, the bound connections, the list of each shard as it was last seen, the record that pends, what no Emit has
-- put out yet, and all that pumps have delivered.
pub record Worker : Type 0 where
  pub committed : List PlainSession
  pub owed : List Change
  pub next_incarnation : ℕ
  pub connections : List PlainConnection
  pub seen : List ShardList
  pub pending : Option PendingRecord
  pub due : List Answer
  pub history : List Delivered

-- The messages that were acknowledged stand beside all this: shard and offset of each.
pub record World : Type 0 where
  pub config : Config
  pub shards : List Shard
  pub workers : List Worker
  pub acked_out : List (ℕ × ℕ)

-- the sessions that the committed ones and the owed changes give together
abbrev pub sessions_of : Worker → List PlainSession
sessions_of w = act_all w.committed w.owed

abbrev pub opening_of : Config → ShardList
opening_of config = opening_list config.top config.below config.messages

abbrev pub opening_shard : Config → Shard
opening_shard config = record { stored = opening_of config; shown = opening_of config; pending = None }

abbrev pub opening_worker : Config → Worker
opening_worker config =
    record {
      committed = [];
      owed = [];
      next_incarnation = 1;
      connections = [];
      seen = replicate config.shards (opening_of config);
      pending = None;
      due = [];
      history = [];
    }

-- nothing is stored, and nobody is there
abbrev pub opening_world : Config → World
opening_world config =
    record {
      config = config;
      shards = replicate config.shards (opening_shard config);
      workers = replicate config.workers (opening_worker config);
      acked_out = [];
    }

-- one worker and one shard, with the values that a generation takes where a script sets none
abbrev pub one_of_each : Config
one_of_each = record { shards = 1; workers = 1; top = 100; below = 10; messages = 32768; retention = 3600000 }
