-- The numbers of the broker's limits, and what of it is built. Definitions take a profile, so that a stage on the way
-- has one of its own, and a row at a limit computes with a small number.
use Rattle.std.specs.Prelude.{ℕ, Bool, true, false}

pub record Profile : Type 0 where
  -- the most bytes of a packet, its header included (MQTT 3.1.2.11.4), and of a client identifier
  pub packet : ℕ
  pub client : ℕ
  -- the most live subscriptions of a session, bytes of all filter texts that it keeps, and filters granted in one
  -- SUBSCRIBE
  pub subscriptions : ℕ
  pub filter_texts : ℕ
  pub granted : ℕ
  -- the most sessions of a worker
  pub sessions : ℕ
  -- how many deliveries of a session may be unfinished, and the most messages of a batch; the same of a wide window,
  -- and how many
  -- sessions of a worker may have one
  pub window : ℕ
  pub batch : ℕ
  pub wide_window : ℕ
  pub wide_batch : ℕ
  pub wide_sessions : ℕ
  -- the most bytes of the packets of a batch, unless it is one packet
  pub batch_bytes : ℕ
  -- the most identifiers of QoS 2 that a connection holds, and that a shard awaits
  pub held : ℕ
  pub awaited : ℕ
  -- the most generations of a shard; and of a generation the bytes of its Stores, the streams, and the nodes of what it
  -- learned
  pub generations : ℕ
  pub generation_bytes : ℕ
  pub streams : ℕ
  pub nodes : ℕ
  -- the most publishes of a group, bytes of its Stores, and Forgets in front of them
  pub group : ℕ
  pub group_bytes : ℕ
  pub forgets : ℕ
  -- the most changes of a record
  pub changes : ℕ
  -- whether topics are learned, publishes of one piece are joined in groups and acknowledgements in records, Forgets go
  -- with groups, bodies of sealed generations are cold, messages expire, and windows may be wide
  pub learns : Bool
  pub joins : Bool
  pub forgets_too : Bool
  pub cools : Bool
  pub expires : Bool
  pub widens : Bool

-- the whole broker
abbrev pub whole : Profile
whole =
    record {
      packet = 1048576;
      client = 256;
      subscriptions = 64;
      filter_texts = 65536;
      granted = 256;
      sessions = 4096;
      window = 512;
      batch = 64;
      wide_window = 2048;
      wide_batch = 256;
      wide_sessions = 256;
      batch_bytes = 2097152;
      held = 32;
      awaited = 4096;
      generations = 8;
      generation_bytes = 16777216;
      streams = 4096;
      nodes = 65536;
      group = 64;
      group_bytes = 2097152;
      forgets = 192;
      changes = 1024;
      learns = true;
      joins = true;
      forgets_too = true;
      cools = true;
      expires = true;
      widens = true;
    }

-- what a script may set: how many shards and workers there are, the thresholds of what is learned at the first level
-- and below it, the most messages of a generation, and how long a sealed generation is kept at least, in milliseconds
pub record Config : Type 0 where
  pub shards : ℕ
  pub workers : ℕ
  pub top : ℕ
  pub below : ℕ
  pub messages : ℕ
  pub retention : ℕ

abbrev pub default_config : Config
default_config = record { shards = 1; workers = 1; top = 100; below = 10; messages = 32768; retention = 3600000 }

-- ---- stages on the way to the whole

-- each publish is a group of its own, without Forgets, each packet's changes are a record of their own, and all bodies
-- are in memory
abbrev pub singly : Profile → Profile
singly profile = record profile { joins = false; forgets_too = false; cools = false }

-- one generation is held, and none is ever sealed
abbrev pub one_generation : Profile → Profile
one_generation profile = record profile { generations = 1 }

-- all topics of a generation have one stream
abbrev pub without_learning : Profile → Profile
without_learning profile = record profile { learns = false }

-- a publish that is to expire is refused
abbrev pub without_expiry : Profile → Profile
without_expiry profile = record profile { expires = false }

-- no window is wide
abbrev pub without_wide_windows : Profile → Profile
without_wide_windows profile = record profile { widens = false }

abbrev pub first_stage : Profile
first_stage = without_wide_windows (without_expiry (without_learning (one_generation (singly whole))))
