-- What the parts of a reading give and leave.
use Rattle.std.specs.Prelude.{ℕ, ◌≡◌, ◌+◌, ◌<◌, ◌≤◌, Bool, true, false, IfErr, IfOk, OnErr, OnOk, Result, List, Vec, IsTrue, length, None}
use Rattle.std.specs.declared.alloc.Global.{Global}
use Rattle.outside.specs.DiskModel.{DiskState}
use Rattle.gated_log.specs.PlainLog.{end_of}
use Rattle.topic_name.specs.declared.descriptor.Descriptor.{Descriptor}
use Rattle.shard_index.specs.KeptIndex.{KeptIndex, list_of}
use Rattle.shard_fold.specs.declared.asked.Asked.{Asked}
use Rattle.shard_fold.specs.declared.limits.TheConstants.{MOST_AWAITED, MOST_SLOT}
use Rattle.shard_fold.specs.Fold.{all_told, are_sound_cuts, first_opening}
use Rattle.shard_fold.specs.FoldLaws.{newest_slot}
use Rattle.shard_fold.specs.Potential.{potential}
use Rattle.shard_disks.specs.Calls.{IsRead, Told}
use Rattle.shard_disks.specs.Images.{AllRead, EachMoment, KeepsDisks, faults_of, seen_of}
use Rattle.shard_disks.specs.Lists.{EachHas}
use Rattle.shard_disks.specs.Outline.{IsEither, Outline, Reads, reads_of, slot_in, with_record}
use Rattle.shard_disks.specs.PlainDisks.{PlainDisks, all_disks, outline}
use Rattle.shard_reading.specs.declared.unread.Unread.{Unread}
use Rattle.shard_reading.specs.declared.unread.Unread.TheVariants.{Damaged, Another, Fault, Memory}
use Rattle.shard_reading.specs.Giving.{Gives, IsReadBlamed}
use Rattle.shard_reading.specs.Held.{IsOpeningTorn, cuts_of, with_opening}
use Rattle.shard_reading.specs.Reading.{HasSlotBytes}

-- a reason that tells nothing of what is held: a disk failed, or there is no memory
abbrev pub IsOutside : Unread → Type 0
IsOutside (Damaged log place) = ⊥
IsOutside (Another what kept asked) = ⊥
IsOutside (Fault disk) = Unit {0}
IsOutside Memory = Unit {0}

-- the records of a slot by its number
abbrev pub records_in : Outline → ℕ → List (List ℕ)
records_in outline slot = (slot_in outline slot).payloads

-- The disks were only read, and the one that failed is to blame.
pub record Looks {D X : Type 0} (state : D → DiskState) (old new : PlainDisks D) (result : Result X Unread) : Type 0 where
  pub read : IsRead state old new
  pub cause : IsReadBlamed (faults_of state (all_disks old)) (faults_of state (all_disks new)) result

-- An index that the records of a slot lead to, with the place behind them: there is room for all that the generation can still take.
pub record IsReached {D : Type 0} (state : D → DiskState) (d : PlainDisks D) (slot : ℕ) (index : KeptIndex) (end : ℕ) : Type 0 where
  pub some : 0 < length (records_in (outline d) slot)
  pub ends : Told state d → end ≡ end_of (records_in (outline d) slot)
  pub room : end + potential (list_of index) ≤ MOST_SLOT
  pub few : length index.awaited ≤ MOST_AWAITED

-- The generations that the manifest names were read.
pub record ReadsCuts {D : Type 0} (state : D → DiskState) (asked : Asked) (old new : PlainDisks D) (result : Result (Vec Descriptor Global) Unread) : Type 0 where
  pub exact : Told state old → Gives (λ (cuts : Vec Descriptor Global). cuts.items) result (cuts_of asked (reads_of (outline old)))
  pub sound : IfOk result (λ (cuts : Vec Descriptor Global). IsTrue (are_sound_cuts cuts.items))
  pub some : IfOk result (λ (cuts : Vec Descriptor Global). 0 < length cuts.items)
  pub looks : Looks state old new result

-- The records of the slots of these generations were read.
pub record ReadsIndex {D : Type 0} (state : D → DiskState) (cuts : List Descriptor) (old new : PlainDisks D) (result : Result KeptIndex Unread) : Type 0 where
  pub exact : Told state old → Gives list_of result (all_told (records_in (outline old)) cuts)
  pub same_cuts : IfOk result (λ (index : KeptIndex). index.cuts ≡ cuts)
  pub some : OnOk result (0 < length (records_in (outline old) (newest_slot cuts)))
  pub room : IfOk result (λ index. (slot_in (outline old) (newest_slot cuts)).end + potential (list_of index) ≤ MOST_SLOT)
  pub looks : Looks state old new result

-- the records with the opening of the first generation in the first slot, where that is to be written
abbrev pub begun : Bool → Reads → Reads
begun true reads = with_record 0 first_opening reads
begun false reads = reads

-- The opening was written, where it is to be.
pub record BeginsShard {D : Type 0} (state : D → DiskState) (new_shard : Bool) (old new : PlainDisks D) (result : Result Unit Unread) : Type 0 where
  pub reads : OnOk result (Told state old → reads_of (outline new) ≡ begun new_shard (reads_of (outline old)))
  pub kept : OnErr result (Told state old → reads_of (outline new) ≡ reads_of (outline old))
  pub told : IfErr result (λ why. Told state old → IsOutside why)
  pub rests : OnOk result ((outline new).doubted ≡ None)
  pub eight : length (outline new).slots ≡ 8
  pub limits : EachHas HasSlotBytes (outline new).slots
  pub side : (outline new).side ≡ (outline old).side
  pub bytes : OnOk result (Told state old → seen_of state (all_disks new) ≡ with_opening new_shard (seen_of state (all_disks old)))
  pub torn : Told state old → IsOpeningTorn new_shard (seen_of state (all_disks old)) (seen_of state (all_disks new))
  pub any_moment : EachMoment state old new (IsEither (reads_of (outline old)) (begun new_shard (reads_of (outline old))))
  pub images : OnOk result (Told state old → AllRead state (all_disks new) (λ reads. reads ≡ reads_of (outline new)))
  pub images_either : Told state old → AllRead state (all_disks new) (IsEither (reads_of (outline old)) (begun new_shard (reads_of (outline old))))
  pub disks : KeepsDisks state (all_disks old) (all_disks new)
  pub cause : IsReadBlamed (faults_of state (all_disks old)) (faults_of state (all_disks new)) result
