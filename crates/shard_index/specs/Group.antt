-- The operations of an index for a group that is stored at a moment.
use Rattle.std.specs.Prelude.{ℕ, ◌+◌, ◌<◌, ◌≤◌, ◌^◌, Bool, true, false, List, [], ◌∷◌, length, None}
use Rattle.std.specs.List.{sum_by}
use Rattle.topic_model.specs.Profile.{whole}
use Rattle.topic_model.specs.StoredMessage.{StoredMessage}
use Rattle.shard_model.specs.ShardList.{ShardList, newest, newest_messages, next_of}
use Rattle.shard_model.specs.Storing.{Op, Store, Release as ToRelease, Forget as ToForget, acts, act_if, placed}
use Rattle.shard_model.specs.Capacity.{store_size}
use Rattle.shard_index.specs.declared.op.IndexOp.{IndexOp}
use Rattle.shard_index.specs.declared.op.IndexOp.TheVariants.{Add, Release, Forget}
use Rattle.shard_index.specs.Sound.{newest_bytes}

-- a Store's message gets the next offset and the moment, and its body is in memory
abbrev pub op_for : ShardList → ℕ → Op → IndexOp
op_for list now (Store m) = Add (record { stored = placed m (next_of list) now; place = None })
op_for list now (ToRelease publisher incarnation id) = Release (record { publisher = publisher; incarnation = incarnation; id = id })
op_for list now (ToForget publisher incarnation) = Forget (record { name = publisher; incarnation = incarnation })

abbrev pub also_if : Bool → IndexOp → List IndexOp → List IndexOp
also_if true op ops = op ∷ ops
also_if false op ops = ops

-- those that are kept, each over the list that those before it leave
abbrev pub ops_for : ShardList → ℕ → List Op → List IndexOp
ops_for list now [] = []
ops_for list now (op ∷ ops) = also_if (acts list op) (op_for list now op) (ops_for (act_if (acts list op) now list op) now ops)

-- there is room for messages in the newest generation, and offsets for them
pub record HasRoom (list : ShardList) (stores : List StoredMessage) : Type 0 where
  pub count : length (newest_messages list) + length stores ≤ (newest list).messages
  pub bytes : newest_bytes list + sum_by store_size stores ≤ whole.generation_bytes
  pub end : next_of list + length stores < 2 ^ 64
