-- What a shard makes of a group that it is asked to store: which operations are kept, and the record that tells them.
use Rattle.std.specs.Prelude.{ℕ, Bool, true, false, ◌&&◌, ◌||◌, nat_le, is_none, if◌then◌else◌, List, [], ◌∷◌, None}
use Rattle.std.specs.List.{list_all}
use Rattle.topic_model.specs.Profile.{whole}
use Rattle.topic_name.specs.KeptMessage.{KeptMessage}
use Rattle.shard_model.specs.ShardList.{ShardList, next_of}
use Rattle.shard_model.specs.Storing.{Op as PlainOp, acts, act_if, kept_ops, placed}
use Rattle.shard_model.specs.Capacity.{awaits_too_many, has_stores, needs_a_cut, passes_the_last}
use Rattle.shard_index.specs.Absorbing.{limits}
use Rattle.session_codec.specs.HasSpelling.{fits_u16}
use Rattle.record_codec.specs.declared.group.Op.{Op}
use Rattle.record_codec.specs.declared.group.Op.TheVariants.{Store, Release, Forget}
use Rattle.record_codec.specs.Records.{KeptGroup, plain_op, plain_ops}
use Rattle.record_codec.specs.HasSpelling.{fits_message, fits_sender}

-- ---- what is written

-- a message at its offset, with the moment as its stamp, and with its body in memory
abbrev pub written_message : ℕ → ℕ → KeptMessage → KeptMessage
written_message now offset m = record { stored = placed m.stored offset now; place = None }

-- an operation as it is written where this offset is the next
abbrev pub written_at : ℕ → ℕ → Op → Op
written_at now offset (Store m) = Store (written_message now offset m)
written_at now offset (Release publisher incarnation id) = Release publisher incarnation id
written_at now offset (Forget publisher incarnation) = Forget publisher incarnation

abbrev pub written_op : ShardList → ℕ → Op → Op
written_op list now op = written_at now (next_of list) op

abbrev pub also_if : {A : Type 0} → Bool → A → List A → List A
also_if true x xs = x ∷ xs
also_if false x xs = xs

-- those that are kept, each over the list that those before it leave
abbrev pub written_ops : ShardList → ℕ → List Op → List Op
written_ops list now [] = []
written_ops list now (op ∷ ops) =
    also_if (acts list (plain_op op)) (written_op list now op) (written_ops (act_if (acts list (plain_op op)) now list (plain_op op)) now ops)

-- the group as it is written
abbrev pub written : ShardList → List Op → ℕ → KeptGroup
written list ops now = record { first = next_of list; ops = written_ops list now ops }

-- ---- what comes of a group

-- The newest generation has no room for the messages of operations that are kept, or their offsets would pass the last one. One
-- generation is held as yet, so that none can begin behind it.
abbrev pub lacks_room : ShardList → List PlainOp → Bool
lacks_room list kept = needs_a_cut limits list kept || (has_stores kept && passes_the_last false list kept)

-- No operation is kept; or there is no room for the messages of those that are; or more identifiers would be awaited than may be; or it
-- is stored as this group.
pub data Planned : Type 0 where
  KeepsNothing : Planned
  IsFull : Planned
  AwaitsTooMany : Planned
  Stores : KeptGroup → Planned

-- by the operations that are kept; a lack of room is found first
abbrev pub planned_by : ShardList → List Op → List PlainOp → ℕ → Planned
planned_by list ops [] now = KeepsNothing
planned_by list ops (op ∷ kept) now =
    if lacks_room list (op ∷ kept) then IsFull else if awaits_too_many whole list (op ∷ kept) now then AwaitsTooMany else Stores (written list ops now)

abbrev pub planned : ShardList → List Op → ℕ → Planned
planned list ops now = planned_by list ops (kept_ops list (plain_ops ops)) now

-- ---- what each operation of a group has

-- A message's body is in memory, its QoS is one, and each number, text and list can be told.
abbrev pub fits_store_alone : KeptMessage → Bool
fits_store_alone m = is_none m.place && (nat_le m.stored.qos 2 && fits_message m.stored)

abbrev pub fits_op_alone : Op → Bool
fits_op_alone (Store m) = fits_store_alone m
fits_op_alone (Release publisher incarnation id) = fits_sender publisher incarnation && fits_u16 id
fits_op_alone (Forget publisher incarnation) = fits_sender publisher incarnation

abbrev pub fit_alone : List Op → Bool
fit_alone ops = list_all fits_op_alone ops
