-- What an index makes of an operation. One that can't stand changes nothing.
use Rattle.std.specs.Prelude.{ℕ, ◌≡◌, ◌+◌, ◌-◌, ◌^◌, ◌==◌, Bool, true, false, ◌&&◌, not, is_none, nat_lt, List, [], ◌∷◌, ◌++◌, map, filter, length, take, drop, if◌then◌else◌, Some}
use Rattle.std.specs.List.{list_all, list_any}
use Rattle.topic_name.specs.declared.descriptor.Descriptor.{Descriptor}
use Rattle.topic_name.specs.KeptMessage.{KeptMessage}
use Rattle.topic_model.specs.Profile.{Profile, whole, without_learning}
use Rattle.topic_model.specs.StoredMessage.{StoredMessage}
use Rattle.shard_model.specs.ShardList.{Cut, Awaited, ShardList, newest, next_of, floor_of, oldest_of}
use Rattle.shard_model.specs.Storing.{Store, Release as ToRelease, Forget as ToForget, acts, act, act_if, becomes_awaited, is_of, is_awaited_as}
use Rattle.shard_model.specs.Capacity.{fits, sealed_at, dropped}
use Rattle.shard_index.specs.declared.op.IndexOp.{IndexOp}
use Rattle.shard_index.specs.declared.op.IndexOp.TheVariants.{Add, Release, Forget, Rotate, Drop}
use Rattle.shard_index.specs.declared.op.Publisher.{Publisher}
use Rattle.shard_index.specs.KeptIndex.{KeptIndex, cut_of, list_of}

-- the limits of a generation, of which all topics have one stream
abbrev pub limits : Profile
limits = without_learning whole

-- ---- which operations can stand

-- A message has the next offset, which isn't the greatest one, and the newest generation has room for it.
abbrev pub has_place : ShardList → StoredMessage → Bool
has_place list m = (m.offset == next_of list) && (nat_lt (m.offset + 1) (2 ^ 64) && fits limits list (Store m ∷ []))

-- and of QoS 2 its identifier isn't awaited
abbrev pub may_add : ShardList → StoredMessage → Bool
may_add list m = has_place list m && acts list (Store m)

-- A generation has the number after the newest one's, begins at the next offset, and isn't sealed.
abbrev pub may_begin : ShardList → Cut → Bool
may_begin list cut = (cut.number == (newest list).number + 1) && ((cut.first == next_of list) && is_none cut.sealed)

-- ---- what they do to the model's list

-- the newest generation is sealed, and a new one stands behind it
abbrev pub begun : ℕ → Cut → ShardList → ShardList
begun now cut list = record list { cuts = sealed_at now list.cuts ++ cut ∷ [] }

abbrev pub begun_if : Bool → ℕ → Cut → ShardList → ShardList
begun_if true now cut list = begun now cut list
begun_if false now cut list = list

abbrev pub absorbed : IndexOp → ShardList → ShardList
absorbed (Add m) list = act_if (may_add list m.stored) m.stored.stamp list (Store m.stored)
absorbed (Release a) list = act 0 list (ToRelease a.publisher a.incarnation a.id)
absorbed (Forget p) list = act 0 list (ToForget p.name p.incarnation)
absorbed (Rotate now cut) list = begun_if (may_begin list (cut_of cut)) now (cut_of cut) list
absorbed Drop list = dropped list

abbrev pub absorbed_all : List IndexOp → ShardList → ShardList
absorbed_all [] list = list
absorbed_all (op ∷ ops) list = absorbed_all ops (absorbed op list)

-- ---- the same, of what an index keeps

abbrev pub with_message : KeptMessage → KeptIndex → KeptIndex
with_message m index = record index { messages = index.messages ++ m ∷ []; awaited = index.awaited ++ becomes_awaited m.stored }

abbrev pub released : Awaited → KeptIndex → KeptIndex
released a index = record index { awaited = filter (λ b. not (is_awaited_as a.publisher a.incarnation a.id b)) index.awaited }

abbrev pub forgotten : Publisher → KeptIndex → KeptIndex
forgotten p index = record index { awaited = filter (λ b. not (is_of p.name p.incarnation b)) index.awaited }

abbrev pub sealed_last : ℕ → List Descriptor → List Descriptor
sealed_last now [] = []
sealed_last now (cut ∷ []) = record cut { sealed = Some now } ∷ []
sealed_last now (cut ∷ other ∷ cuts) = cut ∷ sealed_last now (other ∷ cuts)

abbrev pub with_generation : ℕ → Descriptor → KeptIndex → KeptIndex
with_generation now cut index = record index { cuts = sealed_last now index.cuts ++ cut ∷ [] }

abbrev pub without_first : List Descriptor → List Descriptor
without_first [] = []
without_first (cut ∷ []) = cut ∷ []
without_first (cut ∷ other ∷ cuts) = other ∷ cuts

-- with these generations, and without the messages that lie before them
abbrev pub from_cuts : List Descriptor → KeptIndex → KeptIndex
from_cuts cuts index =
    record index { cuts = cuts; messages = drop ((oldest_of (map cut_of cuts)).first - floor_of (list_of index)) index.messages }

abbrev pub added_if : Bool → KeptMessage → KeptIndex → KeptIndex
added_if true m index = with_message m index
added_if false m index = index

abbrev pub rotated_if : Bool → ℕ → Descriptor → KeptIndex → KeptIndex
rotated_if true now cut index = with_generation now cut index
rotated_if false now cut index = index

abbrev pub kept_after : IndexOp → KeptIndex → KeptIndex
kept_after (Add m) index = added_if (may_add (list_of index) m.stored) m index
kept_after (Release a) index = released a index
kept_after (Forget p) index = forgotten p index
kept_after (Rotate now cut) index = rotated_if (may_begin (list_of index) (cut_of cut)) now cut index
kept_after Drop index = from_cuts (without_first index.cuts) index

abbrev pub kept_after_all : List IndexOp → KeptIndex → KeptIndex
kept_after_all [] index = index
kept_after_all (op ∷ ops) index = kept_after_all ops (kept_after op index)

-- ---- which operations of a list can stand

-- A Release and a Forget take something away, and a Drop leaves a generation.
abbrev pub stands : ShardList → IndexOp → Bool
stands list (Add m) = may_add list m.stored
stands list (Release a) = acts list (ToRelease a.publisher a.incarnation a.id)
stands list (Forget p) = acts list (ToForget p.name p.incarnation)
stands list (Rotate now cut) = may_begin list (cut_of cut)
stands list Drop = nat_lt 1 (length list.cuts)

-- each can, over the list that those before it leave
abbrev pub all_stand : ShardList → List IndexOp → Bool
all_stand list [] = true
all_stand list (op ∷ ops) = stands list op && all_stand (absorbed op list) ops

-- ---- what a message asks of what is awaited

-- of QoS 2 its identifier isn't awaited
abbrev pub is_new : List Awaited → StoredMessage → Bool
is_new awaited m = not ((m.qos == 2) && list_any (is_awaited_as m.publisher m.incarnation m.id) awaited)

-- ---- the operations of a group

-- a group has no Rotate and no Drop
abbrev pub is_of_group : IndexOp → Bool
is_of_group (Add m) = true
is_of_group (Release a) = true
is_of_group (Forget p) = true
is_of_group (Rotate now cut) = false
is_of_group Drop = false

abbrev pub are_of_group : List IndexOp → Bool
are_of_group ops = list_all is_of_group ops

-- what is awaited after operations that can stand
abbrev pub awaited_after : IndexOp → List Awaited → List Awaited
awaited_after (Add m) awaited = if is_new awaited m.stored then awaited ++ becomes_awaited m.stored else awaited
awaited_after (Release a) awaited = filter (λ b. not (is_awaited_as a.publisher a.incarnation a.id b)) awaited
awaited_after (Forget p) awaited = filter (λ b. not (is_of p.name p.incarnation b)) awaited
awaited_after (Rotate now cut) awaited = awaited
awaited_after Drop awaited = awaited

abbrev pub awaited_after_all : List IndexOp → List Awaited → List Awaited
awaited_after_all [] awaited = awaited
awaited_after_all (op ∷ ops) awaited = awaited_after_all ops (awaited_after op awaited)

-- the same generations, and messages behind those that there were
pub record IsBehind (index later : KeptIndex) : Type 0 where
  pub cuts : later.cuts ≡ index.cuts
  pub messages : take (length index.messages) later.messages ≡ index.messages

-- ---- which operations take no memory

abbrev pub takes_no_memory : IndexOp → Bool
takes_no_memory (Add m) = false
takes_no_memory (Release a) = true
takes_no_memory (Forget p) = true
takes_no_memory (Rotate now cut) = false
takes_no_memory Drop = true
