-- What callers see of a shard's log, and what every one keeps.
use Rattle.std.specs.Prelude.{ℕ, ◌≡◌, ◌+◌, ◌<◌, ◌≤◌, Bool, true, false, List, length, Option, Some, None}
use Rattle.outside.specs.DiskModel.{DiskState}
use Rattle.gated_log.specs.Closing.{is_closed_at}
use Rattle.gated_log.specs.PlainLog.{AtRest, InDoubt, Lost, Standing}
use Rattle.shard_model.specs.ShardList.{ShardList}
use Rattle.shard_index.specs.declared.op.IndexOp.{IndexOp}
use Rattle.shard_index.specs.KeptIndex.{KeptIndex, list_of}
use Rattle.shard_index.specs.Absorbing.{absorbed_all, all_stand, are_of_group}
use Rattle.shard_fold.specs.declared.asked.Asked.{Asked}
use Rattle.shard_fold.specs.declared.limits.TheConstants.{MOST_SLOT}
use Rattle.shard_fold.specs.Fold.{Holds}
use Rattle.shard_fold.specs.FoldLaws.{newest_slot}
use Rattle.shard_fold.specs.Giving.{IsAsked}
use Rattle.shard_fold.specs.Potential.{potential}
use Rattle.shard_disks.specs.Calls.{Told, slot_seen}
use Rattle.shard_disks.specs.Images.{AllRead}
use Rattle.shard_disks.specs.Lists.{EachHas}
use Rattle.shard_disks.specs.Outline.{Outline, SlotOutline, reads_after, reads_of, slot_in}
use Rattle.shard_disks.specs.PlainDisks.{PlainDisks, all_disks, outline}
use Rattle.shard_reading.specs.Held.{HoldsEither, HoldsOne, cuts_of}
use Rattle.shard_reading.specs.Reading.{HasSlotBytes}

-- The ten disks; the list as it is shown; the operations whose record was written, or is in doubt, and that the list doesn't show yet; and what
-- the shard was asked to be.
pub record PlainShardLog (D : Type 0) : Type 0 where
  pub disks : PlainDisks D
  pub index : KeptIndex
  pub unshown : List IndexOp
  pub asked : Asked

-- ---- its lists

-- as it is shown
abbrev pub shown : {D : Type 0} → PlainShardLog D → ShardList
shown s = list_of s.index

-- with what isn't shown yet
abbrev pub stored : {D : Type 0} → PlainShardLog D → ShardList
stored s = absorbed_all s.unshown (list_of s.index)

-- as the records hold it: what isn't shown yet is in them, or it is in doubt
abbrev pub known_by : Option ℕ → ShardList → ShardList → ShardList
known_by None shown stored = stored
known_by (Some slot) shown stored = shown

abbrev pub known : {D : Type 0} → PlainShardLog D → ShardList
known s = known_by s.disks.doubted (list_of s.index) (absorbed_all s.unshown (list_of s.index))

-- the slot of the newest generation
abbrev pub own_slot : {D : Type 0} → PlainShardLog D → ℕ
own_slot s = newest_slot s.index.cuts

-- ---- what a doubt comes to

abbrev pub settled_by : Option ℕ → Bool → ShardList → ShardList → ShardList
settled_by None closed shown stored = stored
settled_by (Some slot) true shown stored = shown
settled_by (Some slot) false shown stored = stored

-- The list once nothing is in doubt: a record in doubt is there exactly where the gate before it isn't closed.
abbrev pub settled_list : {D : Type 0} → (D → DiskState) → PlainShardLog D → ShardList
settled_list state s =
    settled_by s.disks.doubted (is_closed_at (slot_in (outline s.disks) (own_slot s)).end (slot_seen state s.disks (own_slot s)))
    (list_of s.index) (absorbed_all s.unshown (list_of s.index))

-- ---- what every value keeps

-- where the records of a slot end, with one that is in doubt
abbrev pub end_with : Standing → ℕ → ℕ
end_with AtRest end = end
end_with (InDoubt payload) end = end + (5 + length payload)
end_with Lost end = end

abbrev pub end_after : SlotOutline → ℕ
end_after slot = end_with slot.standing slot.end

-- in doubt can be the newest generation's slot alone
abbrev pub IsDoubtOf : ℕ → Option ℕ → Type 0
IsDoubtOf own None = Unit {0}
IsDoubtOf own (Some slot) = slot ≡ own

-- Where the disks tell: the manifest names the generations, the newest one's slot has a record, and the records hold the list, with what is in
-- doubt too.
pub record IsTold (asked : Asked) (disks : Outline) (index : KeptIndex) (known stored : ShardList) : Type 0 where
  pub cuts : cuts_of asked (reads_of disks) ≡ Holds index.cuts
  pub some : 0 < length (slot_in disks (newest_slot index.cuts)).payloads
  pub now : HoldsOne asked known (reads_of disks)
  pub after : HoldsOne asked stored (reads_after disks)

-- The slot of the newest generation has room for all that the generation can still take, of both lists.
pub record IsSound (disks : Outline) (index : KeptIndex) (unshown : List IndexOp) : Type 0 where
  pub limits : EachHas HasSlotBytes disks.slots
  pub within : newest_slot index.cuts < 8
  pub doubted : IsDoubtOf (newest_slot index.cuts) disks.doubted
  pub group : are_of_group unshown ≡ true
  pub stand : all_stand (list_of index) unshown ≡ true
  pub room :
      (slot_in disks (newest_slot index.cuts)).end + potential (known_by disks.doubted (list_of index) (absorbed_all unshown (list_of index))) ≤ MOST_SLOT
  pub room_after : end_after (slot_in disks (newest_slot index.cuts)) + potential (absorbed_all unshown (list_of index)) ≤ MOST_SLOT

pub record IsShardLog {D : Type 0} (state : D → DiskState) (s : PlainShardLog D) : Type 0 where
  pub asked : IsAsked s.asked
  pub sound : IsSound (outline s.disks) s.index s.unshown
  pub told : Told state s.disks → IsTold s.asked (outline s.disks) s.index (known s) (stored s)

-- what a crash leaves of the disks now holds one of two lists
abbrev pub ImagesHold : {D : Type 0} → (D → DiskState) → PlainShardLog D → ShardList → ShardList → Type 0
ImagesHold state s before after = Told state s.disks → AllRead state (all_disks s.disks) (HoldsEither s.asked before after)
