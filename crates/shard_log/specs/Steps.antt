-- What the steps of an append do.
use Rattle.std.specs.Prelude.{ℕ, ◌≡◌, ◌⊎◌, ◌+◌, ◌<◌, ◌≤◌, true, List, [], length, Result, OnOk, OnErr, IsErrOf, Some, None}
use Rattle.outside.specs.DiskModel.{DiskState}
use Rattle.shard_model.specs.ShardList.{ShardList}
use Rattle.shard_index.specs.declared.op.IndexOp.{IndexOp}
use Rattle.shard_index.specs.declared.refused.AppendRefused.{AppendRefused}
use Rattle.shard_index.specs.declared.refused.AppendRefused.TheVariants.{Fault, Memory}
use Rattle.shard_index.specs.Absorbing.{absorbed_all, all_stand, are_of_group}
use Rattle.record_codec.specs.Reading.{group_in}
use Rattle.shard_fold.specs.Fold.{Holds, with_group}
use Rattle.shard_fold.specs.Potential.{potential}
use Rattle.shard_disks.specs.Calls.{Told, WriteNone}
use Rattle.shard_disks.specs.Images.{faults_of}
use Rattle.shard_disks.specs.Outline.{reads_of, slot_in, with_record, with_slot}
use Rattle.shard_disks.specs.PlainDisks.{all_disks, outline}
use Rattle.shard_reading.specs.Held.{HoldsEither}
use Rattle.shard_log.specs.Parts.{IsBlamed, IsPart}
use Rattle.shard_log.specs.PlainShardLog.{PlainShardLog, known, own_slot, settled_list, shown, stored}

-- The list that a doubt is settled to is one of two, and where the disks tell, the one that the bytes say.
pub record IsSettled {D : Type 0} (state : D → DiskState) (old : PlainShardLog D) (list : ShardList) : Type 0 where
  pub either : (list ≡ known old) ⊎ (list ≡ stored old)
  pub exact : Told state old.disks → list ≡ settled_list state old

-- A doubt was ended, with nothing written; after a fault it stays.
pub record Settles {D : Type 0} (state : D → DiskState) (old new : PlainShardLog D) (result : Result Unit AppendRefused) : Type 0 where
  pub settled : OnOk result (IsSettled state old (stored new))
  pub rests : OnOk result (new.disks.doubted ≡ None)
  pub index : new.index ≡ old.index
  pub stays : OnErr result (new ≡ record old { disks = new.disks })
  pub stays_open : OnErr result (new.disks.doubted ≡ old.disks.doubted)
  pub was_open : OnErr result (old.disks.doubted ≡ None → ⊥)
  pub only_fault : OnErr result (IsErrOf result Fault)
  pub writes_none : WriteNone state (all_disks old.disks) (all_disks new.disks)
  pub part : IsPart state (HoldsEither old.asked (known old) (stored old)) old new
  pub cause : IsBlamed (faults_of state (all_disks old.disks)) (faults_of state (all_disks new.disks)) result

-- The list shows what it didn't show; on want of memory it stays.
pub record Shows {D : Type 0} (old new : PlainShardLog D) (result : Result Unit AppendRefused) : Type 0 where
  pub stays : new ≡ record old { index = new.index; unshown = new.unshown }
  pub list : OnOk result (shown new ≡ stored old)
  pub none : OnOk result (new.unshown ≡ [])
  pub cuts : new.index.cuts ≡ old.index.cuts
  pub memory : OnErr result (new ≡ old)
  pub only_memory : OnErr result (IsErrOf result Memory)

-- there is room for one more record of the slot, and nothing else is changed
pub record HasMoreRoom {D T E : Type 0} (old new : PlainShardLog D) (result : Result T E) : Type 0 where
  pub stays : new ≡ record old { disks = new.disks }
  pub outline_stays :
      outline new.disks
      ≡ with_slot (own_slot old) (record (slot_in (outline old.disks) (own_slot old)) { spare = (slot_in (outline new.disks) (own_slot old)).spare }) (outline old.disks)
  pub disks : all_disks new.disks ≡ all_disks old.disks
  pub past : new.disks.past ≡ old.disks.past
  pub room : OnOk result (0 < (slot_in (outline new.disks) (own_slot old)).spare)

-- A record can be written whose operations the list takes then.
pub record IsToStore (list : ShardList) (draft : List ℕ) (ops : List IndexOp) : Type 0 where
  pub some : 0 < length draft
  pub group : are_of_group ops ≡ true
  pub stand : all_stand list ops ≡ true
  pub taken : (slot place : ℕ) → with_group slot place list (group_in draft) ≡ Holds (absorbed_all ops list)
  pub room : 5 + length draft + potential (absorbed_all ops list) ≤ potential list

-- The record is on disk, or after a fault in doubt; the list doesn't show it yet.
pub record Writes {D : Type 0} (state : D → DiskState) (draft : List ℕ) (ops : List IndexOp) (old new : PlainShardLog D) (result : Result Unit AppendRefused) : Type 0 where
  pub stays : new ≡ record old { disks = new.disks; unshown = ops }
  pub rests : OnOk result (new.disks.doubted ≡ None)
  pub in_doubt : OnErr result (new.disks.doubted ≡ Some (own_slot old))
  pub only_fault : OnErr result (IsErrOf result Fault)
  pub list : OnOk result (Told state old.disks → reads_of (outline new.disks) ≡ with_record (own_slot old) draft (reads_of (outline old.disks)))
  pub part : IsPart state (HoldsEither old.asked (shown old) (absorbed_all ops (shown old))) old new
  pub cause : IsBlamed (faults_of state (all_disks old.disks)) (faults_of state (all_disks new.disks)) result
