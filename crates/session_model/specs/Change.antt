-- What changes the sessions of a worker: twelve kinds, each of the session of a client.
use Rattle.std.specs.Prelude.{ℕ, List}
use Rattle.shard_model.specs.declared.sweep.Sweep.{Sweep}
use Rattle.session_model.specs.declared.entry.Entry.{Entry}

-- a session begins: its number, its expiry interval and its window
pub record Begins : Type 0 where
  pub incarnation : ℕ
  pub expiry : ℕ
  pub window : ℕ

-- its connection ended: the expiry interval from then on, and the moment
pub record Parts : Type 0 where
  pub expiry : ℕ
  pub moment : ℕ

-- a subscription begins: its number and version, its options and Subscription Identifier (0 for none), its filter, and
-- where it begins in each shard
pub record Subscribes : Type 0 where
  pub subscription : ℕ
  pub version : ℕ
  pub options : ℕ
  pub identifier : ℕ
  pub filter : List (List ℕ)
  pub sweeps : List Sweep

-- an equal filter gives a live subscription a new version (MQTT 3.8.4)
pub record Replaces : Type 0 where
  pub subscription : ℕ
  pub version : ℕ
  pub options : ℕ
  pub identifier : ℕ

-- entries of a subscription were issued in a shard, and the sweep is then here
pub record Issues : Type 0 where
  pub subscription : ℕ
  pub shard : ℕ
  pub entries : List Entry
  pub sweep : Sweep

-- entries directly above the mark of a track were passed over, up to a number
pub record Passes : Type 0 where
  pub track : ℕ
  pub number : ℕ

pub data Effect : Type 0 where
  Began : Begins → Effect
  Ended : Effect
  -- bound to a connection, with an expiry interval
  Bound : ℕ → Effect
  Parted : Parts → Effect
  Subscribed : Subscribes → Effect
  Replaced : Replaces → Effect
  -- the number of the subscription
  Unsubscribed : ℕ → Effect
  Issued : Issues → Effect
  -- the number that is acknowledged, received, done
  Acked : ℕ → Effect
  Received : ℕ → Effect
  Done : ℕ → Effect
  Passed : Passes → Effect

pub record Change : Type 0 where
  pub client : List ℕ
  pub effect : Effect

abbrev pub change : List ℕ → Effect → Change
change client effect = record { client = client; effect = effect }
