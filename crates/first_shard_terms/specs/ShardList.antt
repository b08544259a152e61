-- The list of a shard: what is stored once, for all sessions.
use Rattle.std.specs.Prelude.{ℕ, ◌+◌, Bool, ◌&&◌, not, ◌==◌, nat_lt, if◌then◌else◌, List, [], ◌∷◌, ◌++◌, length, filter, Option, None}
use Rattle.std.specs.List.{list_any}
use Rattle.std.specs.Str.{bytes_eq}
use Rattle.first_topic_name.specs.StoredMessage.{StoredMessage}

-- A generation: its number, the offset that it begins at, the thresholds of its learned topics, how many messages
-- it takes, and the moment at which it was sealed. Only the last one of a list isn't sealed.
pub record Cut : Type 0 where
  pub number : ℕ
  pub first : ℕ
  pub top : ℕ
  pub below : ℕ
  pub messages : ℕ
  pub sealed : Option ℕ

-- an identifier of QoS 2 that its publisher has not released yet
pub record Awaited : Type 0 where
  pub publisher : List ℕ
  pub incarnation : ℕ
  pub id : ℕ

-- The generations, oldest first, with numbers that go up by one; the messages, whose offsets are consecutive from the
-- first generation's on; and what is awaited, in the order in which it became so.
pub record ShardList : Type 0 where
  pub cuts : List Cut
  pub messages : List StoredMessage
  pub awaited : List Awaited

-- the offset that the oldest generation begins at
abbrev pub first_of_cuts : List Cut → ℕ
first_of_cuts [] = 0
first_of_cuts (cut ∷ cuts) = cut.first

abbrev pub floor_of : ShardList → ℕ
floor_of list = first_of_cuts list.cuts

-- the offset of the next message
abbrev pub next_of : ShardList → ℕ
next_of list = floor_of list + length list.messages

-- a list with one generation and no messages
abbrev pub opening_list : ℕ → ℕ → ℕ → ShardList
opening_list top below messages =
    record {
      cuts = record { number = 0; first = 0; top = top; below = below; messages = messages; sealed = None } ∷ [];
      messages = [];
      awaited = [];
    }

-- What a group asks of a shard. A message's own offset and stamp are not read: the list gives them.
pub data Op : Type 0 where
  Store : StoredMessage → Op
  Release : List ℕ → ℕ → ℕ → Op
  Forget : List ℕ → ℕ → Op

-- this identifier of this publisher is awaited
abbrev pub is_awaited_as : List ℕ → ℕ → ℕ → Awaited → Bool
is_awaited_as publisher incarnation id a = bytes_eq a.publisher publisher && (a.incarnation == incarnation) && (a.id == id)

abbrev pub awaits : ShardList → List ℕ → ℕ → ℕ → Bool
awaits list publisher incarnation id = list_any (is_awaited_as publisher incarnation id) list.awaited

-- the message at this place of the list
abbrev pub placed : StoredMessage → ℕ → ℕ → StoredMessage
placed m offset now =
    record {
      offset = offset;
      publisher = m.publisher;
      incarnation = m.incarnation;
      id = m.id;
      qos = m.qos;
      stamp = now;
      expiry = m.expiry;
      topic = m.topic;
      props = m.props;
      payload = m.payload;
    }

-- a message of QoS 2 with an identifier makes that identifier awaited
abbrev pub becomes_awaited : StoredMessage → List Awaited
becomes_awaited m =
    if (m.qos == 2) && nat_lt 0 m.id then record { publisher = m.publisher; incarnation = m.incarnation; id = m.id } ∷ [] else []

-- one operation at a moment; a message whose identifier is awaited already is left out
abbrev pub store_one : ℕ → ShardList → Op → ShardList
store_one now list (Store m) =
    if (m.qos == 2) && awaits list m.publisher m.incarnation m.id then list
    else
    record {
      cuts = list.cuts;
      messages = list.messages ++ placed m (next_of list) now ∷ [];
      awaited = list.awaited ++ becomes_awaited m;
    }
store_one now list (Release publisher incarnation id) =
    record {
      cuts = list.cuts;
      messages = list.messages;
      awaited = filter (λ a. not (is_awaited_as publisher incarnation id a)) list.awaited;
    }
store_one now list (Forget publisher incarnation) =
    record {
      cuts = list.cuts;
      messages = list.messages;
      awaited = filter (λ a. not (bytes_eq a.publisher publisher && (a.incarnation == incarnation))) list.awaited;
    }

-- the list after the operations of a group, in order
abbrev pub store : ShardList → List Op → ℕ → ShardList
store list [] now = list
store list (op ∷ ops) now = store (store_one now list op) ops now
