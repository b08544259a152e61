-- What storing a group does to a shard's list, and which of its operations are kept.
use Rattle.std.specs.Prelude.{ℕ, Bool, true, false, ◌&&◌, not, ◌==◌, nat_lt, if◌then◌else◌, List, [], ◌∷◌, ◌++◌, filter}
use Rattle.std.specs.List.{list_any}
use Rattle.std.specs.Str.{bytes_eq}
use Rattle.topic_model.specs.StoredMessage.{StoredMessage}
use Rattle.shard_model.specs.ShardList.{ShardList, Awaited, next_of}

-- What a group asks of a shard. A message's own offset and stamp are not read: the list gives them.
pub data Op : Type 0 where
  Store : StoredMessage → Op
  Release : List ℕ → ℕ → ℕ → Op
  Forget : List ℕ → ℕ → Op

-- ---- what is awaited

abbrev pub is_of : List ℕ → ℕ → Awaited → Bool
is_of publisher incarnation a = bytes_eq a.publisher publisher && (a.incarnation == incarnation)

abbrev pub is_awaited_as : List ℕ → ℕ → ℕ → Awaited → Bool
is_awaited_as publisher incarnation id a = is_of publisher incarnation a && (a.id == id)

-- two awaited identifiers are the same one
abbrev pub same_triple : Awaited → Awaited → Bool
same_triple a b = is_awaited_as a.publisher a.incarnation a.id b

abbrev pub awaits : ShardList → List ℕ → ℕ → ℕ → Bool
awaits list publisher incarnation id = list_any (is_awaited_as publisher incarnation id) list.awaited

-- who published a message, in which session, and its identifier
abbrev pub triple_of : StoredMessage → Awaited
triple_of m = record { publisher = m.publisher; incarnation = m.incarnation; id = m.id }

-- a message of QoS 2 that was published so
abbrev pub is_message_of : Awaited → StoredMessage → Bool
is_message_of a m = bytes_eq m.publisher a.publisher
    && ((m.incarnation == a.incarnation) && ((m.qos == 2) && (m.id == a.id)))

-- a message of QoS 2 with an identifier makes that identifier awaited (MQTT 4.3.3)
abbrev pub becomes_awaited : StoredMessage → List Awaited
becomes_awaited m =
    if (m.qos == 2) && nat_lt 0 m.id then triple_of m ∷ [] else []

-- ---- one operation

-- Whether an operation is kept: a Release or Forget that takes nothing away isn't, nor a Store of QoS 2 whose
-- identifier is awaited.
abbrev pub acts : ShardList → Op → Bool
acts list (Store m) = not ((m.qos == 2) && awaits list m.publisher m.incarnation m.id)
acts list (Release publisher incarnation id) = awaits list publisher incarnation id
acts list (Forget publisher incarnation) = list_any (is_of publisher incarnation) list.awaited

abbrev pub placed : StoredMessage → ℕ → ℕ → StoredMessage
placed m offset now = record m { offset = offset; stamp = now }

-- a Store takes the next offset and the moment as its stamp
abbrev pub act : ℕ → ShardList → Op → ShardList
act now list (Store m) = record list
    { messages = list.messages ++ placed m (next_of list) now ∷ []; awaited = list.awaited ++ becomes_awaited m }
act now list (Release publisher incarnation id) =
    record list { awaited = filter (λ a. not (is_awaited_as publisher incarnation id a)) list.awaited }
act now list (Forget publisher incarnation) =
    record list { awaited = filter (λ a. not (is_of publisher incarnation a)) list.awaited }

abbrev pub act_if : Bool → ℕ → ShardList → Op → ShardList
act_if true now list op = act now list op
act_if false now list op = list

-- ---- a group

-- the list after the operations of a group, in order
abbrev pub store : ShardList → List Op → ℕ → ShardList
store list [] now = list
store list (op ∷ ops) now = store (act_if (acts list op) now list op) ops now

abbrev pub keep_if : Bool → Op → List Op → List Op
keep_if true op ops = op ∷ ops
keep_if false op ops = ops

-- the operations that are kept, each over the list that those before it leave
abbrev pub kept_ops : ShardList → List Op → List Op
kept_ops list [] = []
kept_ops list (op ∷ ops) = keep_if (acts list op) op (kept_ops (act_if (acts list op) 0 list op) ops)

-- the messages among operations
abbrev pub stores_of : List Op → List StoredMessage
stores_of [] = []
stores_of (Store m ∷ ops) = m ∷ stores_of ops
stores_of (Release publisher incarnation id ∷ ops) = stores_of ops
stores_of (Forget publisher incarnation ∷ ops) = stores_of ops
