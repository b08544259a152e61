-- The list of a shard: what is stored once, for all sessions.
use Rattle.std.specs.Prelude.{ℕ, ◌+◌, ◌-◌, nat_lt, if◌then◌else◌, List, [], ◌∷◌, length, drop, Option, Some, None}
use Rattle.topic_model.specs.StoredMessage.{StoredMessage}
use Rattle.topic_model.specs.Profile.{Config}

-- A generation: its number, the offset that it begins at, the thresholds of its learned topics, how many messages it
-- takes, and the moment at which it was sealed. Only the newest isn't sealed.
pub record Cut : Type 0 where
  pub number : ℕ
  pub first : ℕ
  pub top : ℕ
  pub below : ℕ
  pub messages : ℕ
  pub sealed : Option ℕ

-- an identifier of QoS 2 that its publisher has not released yet
pub record Awaited : Type 0 where
  pub publisher : List ℕ
  pub incarnation : ℕ
  pub id : ℕ

-- The generations, oldest first, with numbers that go up by one; the messages, whose offsets are consecutive from the
-- first generation's on; and what is awaited, in the order in which it became so.
pub record ShardList : Type 0 where
  pub cuts : List Cut
  pub messages : List StoredMessage
  pub awaited : List Awaited

-- ---- generations

-- a generation that begins with the configuration's values
abbrev pub new_cut : Config → ℕ → ℕ → Cut
new_cut config number first =
    record {
      number = number;
      first = first;
      top = config.top;
      below = config.below;
      messages =
          config.messages;
      sealed = None;
    }

-- the newest one; where there is none, which no shard's list is, an empty one of number 0
abbrev pub no_cut : Cut
no_cut = record { number = 0; first = 0; top = 0; below = 0; messages = 0; sealed = None }

abbrev pub newest_of : List Cut → Cut
newest_of [] = no_cut
newest_of (cut ∷ []) = cut
newest_of (cut ∷ other ∷ cuts) = newest_of (other ∷ cuts)

abbrev pub oldest_of : List Cut → Cut
oldest_of [] = no_cut
oldest_of (cut ∷ cuts) = cut

abbrev pub newest : ShardList → Cut
newest list = newest_of list.cuts

-- a shard that has begun
abbrev pub opening_list : Config → ShardList
opening_list config = record { cuts = new_cut config 0 0 ∷ []; messages = []; awaited = [] }

-- ---- offsets

-- the offset that the oldest generation begins at: messages below it are gone
abbrev pub floor_of : ShardList → ℕ
floor_of list = (oldest_of list.cuts).first

-- the offset of the next message
abbrev pub next_of : ShardList → ℕ
next_of list = floor_of list + length list.messages

abbrev pub first_message : List StoredMessage → Option StoredMessage
first_message [] = None
first_message (m ∷ ms) = Some m

-- the message with an offset, none below the floor and from the next one on
abbrev pub message_at : ShardList → ℕ → Option StoredMessage
message_at list offset = if nat_lt offset (floor_of list) then None
    else first_message (drop (offset - floor_of list) list.messages)

-- the messages at or past an offset, which is not below the floor
abbrev pub messages_from : ShardList → ℕ → List StoredMessage
messages_from list offset = drop (offset - floor_of list) list.messages

abbrev pub newest_messages : ShardList → List StoredMessage
newest_messages list = messages_from list (newest list).first
