-- Whether the numbers of a configuration are within their limits, and those of a profile suit one another.
use Rattle.std.specs.Prelude.{◌≡◌, ℕ, ◌+◌, ◌*◌, Bool, true, false, ◌&&◌, nat_le, nat_lt, refl}
use Rattle.topic_model.specs.Profile.{Profile, whole, singly, one_generation, without_learning, without_expiry}
use Rattle.topic_model.specs.Profile.{without_wide_windows, first_stage, Config, default_config}

abbrev pub lies_between : ℕ → ℕ → ℕ → Bool
lies_between least most number = nat_le least number && nat_le number most

-- the shards and the workers are as many as may be
abbrev pub has_known_counts : Config → Bool
has_known_counts config = lies_between 1 8 config.shards && lies_between 1 16 config.workers

-- the thresholds of learned topics, at the first level and below it
abbrev pub has_known_thresholds : Config → Bool
has_known_thresholds config = lies_between 1 1000 config.top && lies_between 1 1000 config.below

-- the messages of a generation, and how long a sealed one is kept, in milliseconds
abbrev pub has_known_generations : Config → Bool
has_known_generations config = lies_between 1 32768 config.messages && lies_between 0 1000000000000 config.retention

abbrev pub is_within_limits : Config → Bool
is_within_limits config = has_known_counts config && (has_known_thresholds config && has_known_generations config)

-- ---- examples

the_default : is_within_limits default_config ≡ true
the_default = refl

no_shard : is_within_limits (record default_config { shards = 0 }) ≡ false
no_shard = refl

nine_shards : is_within_limits (record default_config { shards = 9 }) ≡ false
nine_shards = refl

the_greatest : is_within_limits
    (record { shards = 8; workers = 16; top = 1000; below = 1000; messages = 32768; retention = 1000000000000 }) ≡ true
the_greatest = refl

a_longer_retention : is_within_limits (record default_config { retention = 1000000000001 }) ≡ false
a_longer_retention = refl

-- ---- profiles whose limits suit one another

-- an identifier that a worker assigns, `auto-DD-N` with N of at most twenty digits, is one that a client may have
abbrev pub has_long_clients : Profile → Bool
has_long_clients profile = nat_le 28 profile.client

-- A window is one of two, told apart by their lengths; and as many identifiers as may be unfinished are different ones,
-- as each track has 32,767 (MQTT 2.2.1).
abbrev pub has_windows : Profile → Bool
has_windows profile =
    nat_lt 0 profile.window && (nat_lt profile.window profile.wide_window && nat_le profile.wide_window 32767)
    && (nat_lt 0 profile.batch && nat_lt 0 profile.wide_batch)

-- a record has room for what one SUBSCRIBE, one UNSUBSCRIBE or one pump changes
abbrev pub has_long_records : Profile → Bool
has_long_records profile =
    nat_le 3 profile.changes && (nat_le profile.granted profile.changes && nat_le profile.subscriptions profile.changes)

-- a publish of any packet fits a group, and a group fits a generation that is empty: its Stores, its topics of at most
-- 128 levels, and its streams
abbrev pub has_large_generations : Profile → Bool
has_large_generations profile =
    nat_lt 0 profile.generations && (nat_lt 0 profile.group && nat_le profile.group profile.streams)
    && (nat_le (128 * profile.group + 1) profile.nodes && nat_le profile.group_bytes profile.generation_bytes)
    && nat_le (profile.packet + profile.client + 64) profile.group_bytes

-- what CONNACK says fits its fields: a Receive Maximum of two bytes that isn't 0 and a Maximum Packet Size of four
-- (MQTT 3.2.2.3.3, 3.2.2.3.6); and each shard has a place for what a connection holds
abbrev pub has_told_limits : Profile → Bool
has_told_limits profile =
    lies_between 1 65535 profile.held && lies_between 1 4294967295 profile.packet && nat_lt 0 profile.awaited

-- The laws of the broker hold of the profiles that pass this test.
abbrev pub limits_suit : Profile → Bool
limits_suit profile =
    has_long_clients profile && (has_windows profile && has_long_records profile)
    && (has_large_generations profile && has_told_limits profile)

the_whole_suits : limits_suit whole ≡ true
the_whole_suits = refl

each_stage_suits : limits_suit first_stage ≡ true
each_stage_suits = refl

singly_suits : (limits_suit (singly whole) && limits_suit (one_generation whole)) ≡ true
singly_suits = refl

without_suits : (limits_suit (without_learning whole)
    && (limits_suit (without_expiry whole) && limits_suit (without_wide_windows whole))) ≡ true
without_suits = refl

-- equal windows don't suit: a session couldn't tell which it has
equal_windows : limits_suit (record whole { wide_window = 512 }) ≡ false
equal_windows = refl

-- nor a client identifier that is too short for an assigned one
short_clients : limits_suit (record whole { client = 27 }) ≡ false
short_clients = refl
