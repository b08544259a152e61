-- The records of a shard's disks as plain values.
use Rattle.std.specs.Prelude.{ℕ, List, map}
use Rattle.topic_name.specs.declared.descriptor.Descriptor.{Descriptor}
use Rattle.shard_model.specs.ShardList.{Awaited}
use Rattle.topic_model.specs.StoredMessage.{StoredMessage}
use Rattle.shard_model.specs.Storing.{Op as PlainOp, stores_of, Store as PlainStore, Release as PlainRelease, Forget as PlainForget}
use Rattle.shard_index.specs.declared.op.IndexOp.{IndexOp}
use Rattle.shard_index.specs.declared.op.IndexOp.TheVariants as index
use Rattle.record_codec.specs.declared.group.Op.{Op}
use Rattle.record_codec.specs.declared.group.Op.TheVariants.{Store, Release, Forget}

-- the operations of a group that are kept, in order, and the offset that its first message takes
pub record KeptGroup : Type 0 where
  pub first : ℕ
  pub ops : List Op

-- where a generation begins: its number, its first offset, and what is awaited then, in the order in which it became so
pub record KeptOpening : Type 0 where
  pub generation : ℕ
  pub first : ℕ
  pub awaited : List Awaited

-- how many shards and workers there are, the shard's number, and its generations, oldest first
pub record KeptManifest : Type 0 where
  pub shards : ℕ
  pub workers : ℕ
  pub shard : ℕ
  pub cuts : List Descriptor

-- an operation as the definition of storing takes it
abbrev pub plain_op : Op → PlainOp
plain_op (Store m) = PlainStore m.stored
plain_op (Release publisher incarnation id) = PlainRelease publisher incarnation id
plain_op (Forget publisher incarnation) = PlainForget publisher incarnation

abbrev pub plain_ops : List Op → List PlainOp
plain_ops ops = map plain_op ops

-- an operation of a record as an index takes it
abbrev pub index_op : Op → IndexOp
index_op (Store m) = index.Add m
index_op (Release publisher incarnation id) = index.Release (record { publisher = publisher; incarnation = incarnation; id = id })
index_op (Forget publisher incarnation) = index.Forget (record { name = publisher; incarnation = incarnation })

abbrev pub index_ops : List Op → List IndexOp
index_ops ops = map index_op ops

-- the messages that operations store
abbrev pub messages_of : List Op → List StoredMessage
messages_of ops = stores_of (plain_ops ops)

-- how many offsets an operation takes: a Store one, and the others none
abbrev pub offsets_of : Op → ℕ
offsets_of (Store m) = 1
offsets_of (Release publisher incarnation id) = 0
offsets_of (Forget publisher incarnation) = 0
