-- What a generation has room for, when a group needs a new one, and when a shard is full.
use Rattle.std.specs.Prelude.{ℕ, ◌+◌, ◌-◌, ◌^◌, Bool, true, false, ◌&&◌, ◌||◌, not, nat_le, nat_lt, List, [], ◌∷◌, ◌++◌}
use Rattle.std.specs.Prelude.{length, drop, Option, Some, None}
use Rattle.std.specs.List.{sum_by}
use Rattle.topic_model.specs.Profile.{Profile, Config}
use Rattle.topic_model.specs.Levels.{text_of_levels}
use Rattle.topic_model.specs.StoredMessage.{StoredMessage}
use Rattle.shard_model.specs.ShardList.{Cut, ShardList, newest, newest_messages, oldest_of, floor_of, next_of, new_cut}
use Rattle.shard_model.specs.Storing.{Op, store, stores_of}
use Rattle.shard_model.specs.LearnedPath.{nodes_of}
use Rattle.shard_model.specs.Streams.{patterns_in}

-- ---- sizes

-- an expiry takes four bytes
abbrev pub expiry_size : Option ℕ → ℕ
expiry_size None = 0
expiry_size (Some seconds) = 4

-- How many bytes a message takes in a group: a tag, its publisher, the incarnation, the identifier, the QoS, the stamp
-- and the expiry, the text of its topic, its properties and its payload, texts with two bytes of length in front and
-- blobs with four.
abbrev pub store_size : StoredMessage → ℕ
store_size m =
    1 + (2 + length m.publisher) + 8 + 2 + 1 + 8 + expiry_size m.expiry + (2 + length (text_of_levels m.topic)) +
    (4 + length m.props) + (4 + length m.payload)

-- ---- a generation

abbrev pub has_stores : List Op → Bool
has_stores ops = nat_lt 0 (length (stores_of ops))

-- what is learned of the topics of some messages keeps within the streams and the nodes that a generation may have
abbrev pub learns_within : Profile → Cut → List StoredMessage → Bool
learns_within profile cut ms =
    let patterns = patterns_in profile cut ms in
    nat_le (length patterns) profile.streams && nat_le (length (nodes_of patterns)) profile.nodes

-- so few messages, with so few levels, that it does whatever is learned
abbrev pub levels_of_all : List StoredMessage → ℕ
levels_of_all ms = sum_by (λ (m : StoredMessage). 1 + length m.topic) ms

abbrev pub are_few : Profile → List StoredMessage → Bool
are_few profile ms = nat_le (1 + length ms) profile.streams && nat_le (2 + levels_of_all ms) profile.nodes

-- the same as `learns_within`, without learning anything where the messages are few
abbrev pub learns_few_or_within : Profile → Cut → List StoredMessage → Bool
learns_few_or_within profile cut ms =
    elim (are_few profile ms) as (λ few. Bool) [ true ↦ true | false ↦ learns_within profile cut ms ]

abbrev pub fits_in : Profile → Cut → List StoredMessage → Bool
fits_in profile cut ms =
    nat_le (length ms) cut.messages
    && (nat_le (sum_by store_size ms) profile.generation_bytes && learns_few_or_within profile cut ms)

-- whether the newest generation has room for the messages of operations that are kept, by all four limits
abbrev pub fits : Profile → ShardList → List Op → Bool
fits profile list ops = fits_in profile (newest list) (newest_messages list ++ stores_of ops)

-- a group that has no message never needs a new generation
abbrev pub needs_a_cut : Profile → ShardList → List Op → Bool
needs_a_cut profile list ops = has_stores ops && not (fits profile list ops)

-- ---- dropping the oldest

-- sealed at least the retention ago
abbrev pub is_retained_out : ℕ → ℕ → Option ℕ → Bool
is_retained_out retention now None = false
is_retained_out retention now (Some sealed) = nat_le (sealed + retention) now

abbrev pub may_drop : Config → ShardList → ℕ → Bool
may_drop config list now = is_retained_out config.retention now (oldest_of list.cuts).sealed

abbrev pub holds_all : Profile → ShardList → Bool
holds_all profile list = nat_le profile.generations (length list.cuts)

-- ---- the last values

-- the next offset, or the number of a new generation, would pass the greatest number of eight bytes
abbrev pub passes_the_last : Bool → ShardList → List Op → Bool
passes_the_last needs list ops =
    nat_le (2 ^ 64) (next_of list + length (stores_of ops)) || (needs && nat_le (2 ^ 64) ((newest list).number + 1))

-- ---- a full shard

-- The operations are kept ones. They need a new generation, all that may be held are held, and the oldest may not be
-- dropped yet; or they would pass the last values.
abbrev pub is_full_if : Bool → Profile → Config → ShardList → List Op → ℕ → Bool
is_full_if needs profile config list ops now =
    (needs && (holds_all profile list && not (may_drop config list now)))
    || (has_stores ops && passes_the_last needs list ops)

abbrev pub is_full : Profile → Config → ShardList → List Op → ℕ → Bool
is_full profile config list ops now = is_full_if (needs_a_cut profile list ops) profile config list ops now

-- more identifiers would be awaited than may be
abbrev pub awaits_too_many : Profile → ShardList → List Op → ℕ → Bool
awaits_too_many profile list ops now = nat_lt profile.awaited (length (store list ops now).awaited)

-- ---- what a new generation and a dropped one leave

abbrev pub sealed_at : ℕ → List Cut → List Cut
sealed_at now [] = []
sealed_at now (cut ∷ []) = record cut { sealed = Some now } ∷ []
sealed_at now (cut ∷ other ∷ cuts) = cut ∷ sealed_at now (other ∷ cuts)

-- the newest generation is sealed at a moment, and a new one begins at the next offset
abbrev pub rotated : Config → ℕ → ShardList → ShardList
rotated config now list =
    record list { cuts = sealed_at now list.cuts ++ new_cut config ((newest list).number + 1) (next_of list) ∷ [] }

abbrev pub without_oldest : List Cut → List Cut
without_oldest [] = []
without_oldest (cut ∷ []) = cut ∷ []
without_oldest (cut ∷ other ∷ cuts) = other ∷ cuts

-- the oldest generation is dropped, with its messages; the only one stays
abbrev pub dropped : ShardList → ShardList
dropped list =
    let cuts = without_oldest list.cuts in
    record list { cuts = cuts; messages = drop ((oldest_of cuts).first - floor_of list) list.messages }
