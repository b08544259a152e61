-- What reading a shard from its disks leaves.
use Rattle.std.specs.Prelude.{◌≡◌, ◌+◌, ◌<◌, ◌≤◌, IfOk, OnOk, Result, length, None}
use Rattle.outside.specs.DiskModel.{DiskState}
use Rattle.shard_index.specs.KeptIndex.{KeptIndex, list_of}
use Rattle.shard_fold.specs.declared.asked.Asked.{Asked}
use Rattle.shard_fold.specs.declared.limits.TheConstants.{MOST_SLOT}
use Rattle.shard_fold.specs.Fold.{Holds}
use Rattle.shard_fold.specs.FoldLaws.{newest_slot}
use Rattle.shard_fold.specs.Potential.{potential}
use Rattle.shard_disks.specs.Calls.{Told}
use Rattle.shard_disks.specs.Images.{AllRead, EachMoment, KeepsDisks, faults_of, seen_of}
use Rattle.shard_disks.specs.Lists.{EachHas}
use Rattle.shard_disks.specs.Outline.{SlotOutline, reads_of, slot_in}
use Rattle.shard_disks.specs.PlainDisks.{PlainDisks, all_disks, outline}
use Rattle.shard_reading.specs.declared.limits.TheConstants.{SLOT_BYTES}
use Rattle.shard_reading.specs.declared.unread.Unread.{Unread}
use Rattle.shard_reading.specs.Giving.{Gives, IsReadBlamed}
use Rattle.shard_reading.specs.Held.{IsOpeningTorn, begins, cuts_of, held_in, with_opening}

-- each slot may have as many bytes as its generation can fill
abbrev pub HasSlotBytes : SlotOutline → Type 0
HasSlotBytes slot = slot.limit ≡ SLOT_BYTES

-- An index of what the disks hold: of the generations that the manifest names; the newest one's slot has a record, and room for all that its
-- generation can still take.
pub record IsIndexOf {D : Type 0} (state : D → DiskState) (asked : Asked) (d : PlainDisks D) (index : KeptIndex) : Type 0 where
  pub cuts : Told state d → cuts_of asked (reads_of (outline d)) ≡ Holds index.cuts
  pub within : newest_slot index.cuts < 8
  pub some : Told state d → 0 < length (slot_in (outline d) (newest_slot index.cuts)).payloads
  pub room : (slot_in (outline d) (newest_slot index.cuts)).end + potential (list_of index) ≤ MOST_SLOT

-- The list that the records hold, or why they hold none. Of a new shard the opening of its first generation is written; nothing else is. At each
-- moment the images hold what the records held, and so do those that a crash may leave then, also where it is refused.
pub record ReadsShard {D : Type 0} (state : D → DiskState) (asked : Asked) (old new : PlainDisks D) (result : Result KeptIndex Unread) : Type 0 where
  pub exact : Told state old → Gives list_of result (held_in asked (reads_of (outline old)))
  pub same : Told state old → held_in asked (reads_of (outline new)) ≡ held_in asked (reads_of (outline old))
  pub index : IfOk result (IsIndexOf state asked new)
  pub rests : OnOk result ((outline new).doubted ≡ None)
  pub eight : length (outline new).slots ≡ 8
  pub limits : EachHas HasSlotBytes (outline new).slots
  pub side : (outline new).side ≡ (outline old).side
  pub bytes : OnOk result (Told state old → seen_of state (all_disks new) ≡ with_opening (begins asked (reads_of (outline old))) (seen_of state (all_disks old)))
  pub torn : Told state old → IsOpeningTorn (begins asked (reads_of (outline old))) (seen_of state (all_disks old)) (seen_of state (all_disks new))
  pub any_moment : EachMoment state old new (λ reads. held_in asked reads ≡ held_in asked (reads_of (outline old)))
  pub images : OnOk result (Told state old → AllRead state (all_disks new) (λ reads. reads ≡ reads_of (outline new)))
  pub holds : Told state old → AllRead state (all_disks new) (λ reads. held_in asked reads ≡ held_in asked (reads_of (outline old)))
  pub disks : KeepsDisks state (all_disks old) (all_disks new)
  pub cause : IsReadBlamed (faults_of state (all_disks old)) (faults_of state (all_disks new)) result
