-- What the disks of a shard hold, by what is read of them, and how a new one begins.
use Rattle.std.specs.Prelude.{ℕ, ◌≡◌, ◌⊎◌, ◌+◌, Bool, true, false, List, [], ◌∷◌, slice_index_or, slice_set}
use Rattle.outside.specs.DiskModel.{Torn}
use Rattle.gated_log.specs.Calls.{with_record}
use Rattle.pair_log.specs.Mounted.{or_first}
use Rattle.shard_model.specs.ShardList.{ShardList}
use Rattle.topic_name.specs.declared.descriptor.Descriptor.{Descriptor}
use Rattle.shard_fold.specs.declared.asked.Asked.{Asked}
use Rattle.shard_fold.specs.declared.unread.Where.{Where}
use Rattle.shard_fold.specs.declared.unread.Where.TheVariants.{Manifest, Slot}
use Rattle.shard_fold.specs.Fold.{Folded, Holds, IsDamaged, HasAnother, cuts_told, first_manifest, first_opening, folded, is_new}
use Rattle.shard_disks.specs.Outline.{Reads}

-- what the records hold: the list of a shard, or why they hold none
abbrev pub held_in : Asked → Reads → Folded ShardList
held_in asked reads = folded asked reads.manifest reads.slots

-- they hold this list
abbrev pub HoldsOne : Asked → ShardList → Reads → Type 0
HoldsOne asked list reads = held_in asked reads ≡ Holds list

-- they hold one of two lists
abbrev pub HoldsEither : Asked → ShardList → ShardList → Reads → Type 0
HoldsEither asked before after reads = HoldsOne asked before reads ⊎ HoldsOne asked after reads

-- the generations that the manifest's records name
abbrev pub cuts_of : Asked → Reads → Folded (List Descriptor)
cuts_of asked reads = cuts_told asked (or_first (first_manifest asked) reads.manifest)

-- the place of a disk among the ten by the log that it has: the slots stand behind the two of the manifest, of which the one on this side counts
abbrev pub disk_place : ℕ → Where → ℕ
disk_place side Manifest = side
disk_place side (Slot slot) = 2 + slot

-- ---- a new shard

-- the first generation of a new shard, whose slot has no record
abbrev pub begins_by : Folded (List Descriptor) → List (List ℕ) → Bool
begins_by (Holds cuts) [] = is_new cuts
begins_by (Holds cuts) (payload ∷ payloads) = false
begins_by (IsDamaged log place) payloads = false
begins_by (HasAnother what kept asked) payloads = false

-- whether the opening of the first generation is still to be written
abbrev pub begins : Asked → Reads → Bool
begins asked reads = begins_by (cuts_of asked reads) (slice_index_or reads.slots 0 [])

-- the bytes of all disks once it is written, on the disk of the first slot
abbrev pub with_opening : Bool → List (List ℕ) → List (List ℕ)
with_opening true bytes = slice_set bytes 2 (with_record 0 first_opening (slice_index_or bytes 2 []))
with_opening false bytes = bytes

-- the same where the write was perhaps cut short: an opening has 19 bytes, and 6 around them
abbrev pub IsOpeningTorn : Bool → List (List ℕ) → List (List ℕ) → Type 0
IsOpeningTorn true old new =
    (new ≡ slice_set old 2 (slice_index_or new 2 [])) × Torn 0 25 (slice_index_or old 2 []) (slice_index_or new 2 [])
IsOpeningTorn false old new = new ≡ old
