-- What each part of a call keeps, and which disk is to blame for its answer.
use Rattle.std.specs.Prelude.{ℕ, ◌≡◌, ◌⊎◌, ◌+◌, ◌≤◌, IsErrOf, Result, List, slice_set}
use Rattle.outside.specs.DiskModel.{DiskState}
use Rattle.shard_model.specs.ShardList.{ShardList}
use Rattle.shard_index.specs.declared.refused.AppendRefused.{AppendRefused}
use Rattle.shard_index.specs.declared.refused.AppendRefused.TheVariants.{Fault}
use Rattle.shard_fold.specs.declared.asked.Asked.{Asked}
use Rattle.shard_disks.specs.Blame.{SomeRose}
use Rattle.shard_disks.specs.Calls.{Told, slot_seen}
use Rattle.shard_disks.specs.Images.{EachMoment, KeepsDisks, seen_of}
use Rattle.shard_disks.specs.Lists.{Pairwise}
use Rattle.shard_disks.specs.Outline.{Reads}
use Rattle.shard_disks.specs.PlainDisks.{all_disks}
use Rattle.shard_reading.specs.Held.{HoldsEither, HoldsOne}
use Rattle.shard_log.specs.PlainShardLog.{PlainShardLog, own_slot}

-- the records hold one of three lists
abbrev pub HoldsAmong : Asked → ShardList → ShardList → ShardList → Reads → Type 0
HoldsAmong asked known stored after reads = HoldsEither asked known stored reads ⊎ HoldsOne asked after reads

-- The counts of faults never fall: a fault comes only where one rose, and beside every other answer all are what they were.
pub record IsBlamed {T : Type 0} (before now : List ℕ) (result : Result T AppendRefused) : Type 0 where
  pub later : Pairwise (λ b n. b ≤ n) before now
  pub fault : IsErrOf result Fault → SomeRose before now
  pub kept : (IsErrOf result Fault → ⊥) → now ≡ before

-- Nothing that was asked for is changed, nor the generations. Of the bytes at most those of the newest generation's slot are. At each moment what
-- a mount would read from the images has P.
pub record IsPart {D : Type 0} (state : D → DiskState) (P : Reads → Type 0) (old new : PlainShardLog D) : Type 0 where
  pub asked : new.asked ≡ old.asked
  pub cuts : new.index.cuts ≡ old.index.cuts
  pub disks : KeepsDisks state (all_disks old.disks) (all_disks new.disks)
  pub elsewhere :
      Told state old.disks →
      seen_of state (all_disks new.disks) ≡ slice_set (seen_of state (all_disks old.disks)) (2 + own_slot old) (slot_seen state new.disks (own_slot old))
  pub any_moment : EachMoment state old.disks new.disks P
