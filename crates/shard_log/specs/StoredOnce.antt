-- How often a message was stored whose identifier is awaited.
use Rattle.std.specs.Prelude.{ℕ, ◌≡◌, ◌⊎◌, ◌+◌, ◌&&◌, Bool, true, false, if◌then◌else◌, List, [], ◌∷◌, None, refl}
use Rattle.std.proofs.Common.{inl, inr, ap, arith}
use Rattle.shard_model.specs.ShardList.{Awaited, ShardList, next_of, opening_list}
use Rattle.shard_model.specs.Storing.{Op, Store, Release, Forget, act_if, acts, awaits, is_awaited_as, is_message_of, is_of, store}
use Rattle.topic_model.specs.Profile.{default_config}
use Rattle.topic_model.specs.StoredMessage.{StoredMessage}

-- What comes of a call, or of a crash inside it, and of a mount: a group was stored at a moment, or the list was left.
pub data Event : Type 0 where
  Appended : List Op → ℕ → Event
  Left : Event

abbrev pub list_after : ShardList → List Event → ShardList
list_after list [] = list
list_after list (Appended ops now ∷ events) = list_after (store list ops now) events
list_after list (Left ∷ events) = list_after list events

abbrev pub is_awaited : Awaited → ShardList → Bool
is_awaited a list = awaits list a.publisher a.incarnation a.id

-- how often a message of QoS 2 with this identifier was stored since the identifier was last released, behind an operation that acts or not
abbrev pub times_by : Awaited → Bool → Op → ℕ → ℕ
times_by a acts (Store m) n = if acts && is_message_of a m then n + 1 else n
times_by a acts (Release publisher incarnation id) n = if is_awaited_as publisher incarnation id a then 0 else n
times_by a acts (Forget publisher incarnation) n = if is_of publisher incarnation a then 0 else n

abbrev pub times_in_group : Awaited → ShardList → List Op → ℕ → ℕ → ℕ
times_in_group a list [] now n = n
times_in_group a list (op ∷ ops) now n = times_in_group a (act_if (acts list op) now list op) ops now (times_by a (acts list op) op n)

abbrev pub times_after : Awaited → ShardList → List Event → ℕ → ℕ
times_after a list [] n = n
times_after a list (Appended ops now ∷ events) n = times_after a (store list ops now) events (times_in_group a list ops now n)
times_after a list (Left ∷ events) n = times_after a list events n

-- once where the identifier is awaited, and not at all where it isn't
abbrev pub once_if : Bool → ℕ
once_if true = 1
once_if false = 0

-- ---- over calls

-- A call on a shard: an append of a group at a moment, a tick, or a mount of its disks.
pub data Call : Type 0 where
  Append : List Op → ℕ → Call
  Tick : Call
  Mount : Call

-- what comes of a list by a call: an append leaves it or stores its group in it, and the others leave it
abbrev pub ComesBy : Call → ShardList → ShardList → Type 0
ComesBy (Append ops now) list new = (new ≡ list) ⊎ (new ≡ store list ops now)
ComesBy Tick list new = new ≡ list
ComesBy Mount list new = new ≡ list

-- What comes of what a shard's disks may hold: the list without what is in doubt, or the one with it.
abbrev pub ComesOf : Call → ShardList → ShardList → ShardList → Type 0
ComesOf call known stored new = (list : ShardList) × ((list ≡ known) ⊎ (list ≡ stored)) × ComesBy call list new

-- Calls one after another, from what the disks may hold to what they may hold then. A call that a crash cuts short is one after which they may hold
-- what its images held at the moment of the crash.
abbrev pub IsRun : ShardList → ShardList → List Call → ShardList → ShardList → Type 0
IsRun known stored [] known_now stored_now = (known_now ≡ known) × (stored_now ≡ stored)
IsRun known stored (call ∷ calls) known_now stored_now =
    (known_then : ShardList) × (stored_then : ShardList)
    × ComesOf call known stored known_then × ComesOf call known stored stored_then × IsRun known_then stored_then calls known_now stored_now

-- what came of a call, and of calls in their order
abbrev pub IsEventOf : Call → Event → Type 0
IsEventOf (Append ops now) event = (event ≡ Left) ⊎ (event ≡ Appended ops now)
IsEventOf Tick event = event ≡ Left
IsEventOf Mount event = event ≡ Left

abbrev pub AreEventsOf : List Call → List Event → Type 0
AreEventsOf [] [] = Unit {0}
AreEventsOf [] (event ∷ events) = ⊥
AreEventsOf (call ∷ calls) [] = ⊥
AreEventsOf (call ∷ calls) (event ∷ events) = IsEventOf call event × AreEventsOf calls events

-- Of a list that these calls led to from another: what came of each, so that they led to it, and that a message whose identifier is awaited was stored
-- once.
pub record IsStoredOnce (a : Awaited) (list : ShardList) (calls : List Call) (n : ℕ) (now : ShardList) : Type 0 where
  pub events : List Event
  pub of_calls : AreEventsOf calls events
  pub reached : now ≡ list_after list events
  pub once : times_after a list events n ≡ once_if (is_awaited a now)

-- ---- examples: stored, left by a crash, and stored again; released, and stored again

abbrev pub one_message : StoredMessage
one_message = record {
  offset = 0;
  publisher = 112 ∷ [];
  incarnation = 1;
  id = 7;
  qos = 2;
  stamp = 0;
  expiry = None;
  topic = (97 ∷ []) ∷ [];
  props = [];
  payload = 104 ∷ [];
}

abbrev pub one_awaited : Awaited
one_awaited = record { publisher = 112 ∷ []; incarnation = 1; id = 7 }

again : times_after one_awaited (opening_list default_config) (Appended (Store one_message ∷ []) 5 ∷ Left ∷ Appended (Store one_message ∷ Store one_message ∷ []) 9 ∷ []) 0 ≡ 1
again = refl

released_between : times_after one_awaited (opening_list default_config)
    (Appended (Store one_message ∷ Release (112 ∷ []) 1 7 ∷ []) 5 ∷ Left ∷ Appended (Store one_message ∷ []) 9 ∷ []) 0 ≡ 1
released_between = refl

forgotten : times_after one_awaited (opening_list default_config) (Appended (Store one_message ∷ []) 5 ∷ Appended (Forget (112 ∷ []) 1 ∷ []) 6 ∷ []) 0 ≡ 0
forgotten = refl

-- an append that a crash cut short, the mount behind it, which finds that the group is there, and the same group once more
abbrev pub before_it : ShardList
before_it = opening_list default_config

abbrev pub behind_it : ShardList
behind_it = store before_it (Store one_message ∷ []) 5

cut_short : IsRun before_it before_it (Append (Store one_message ∷ []) 5 ∷ Mount ∷ Append (Store one_message ∷ []) 9 ∷ []) behind_it behind_it
cut_short = (
  behind_it,
  behind_it,
  (before_it, inl refl, inr refl),
  (before_it, inl refl, inr refl),
  (
    behind_it,
    behind_it,
    (behind_it, inl refl, refl),
    (behind_it, inl refl, refl),
    (behind_it, behind_it, (behind_it, inl refl, inr refl), (behind_it, inl refl, inr refl), (refl, refl)),
  ),
)

-- a tick stores nothing
no_tick : ComesBy Tick before_it behind_it → ⊥
no_tick e = let next : 1 ≡ 0 = ap next_of e in omega (arith, next)
