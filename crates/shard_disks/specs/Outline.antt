-- What the ten disks of a shard hold: the manifest of a pair of logs, and the records of eight slots.
use Rattle.std.specs.Prelude.{ℕ, ◌≡◌, ◌⊎◌, List, [], ◌∷◌, ◌++◌, map, slice_index_or, slice_set, Option, Some, None, refl}
use Rattle.std.specs.Int.{w64, to_be_bytes}
use Rattle.gated_log.specs.PlainLog.{AtRest, InDoubt, Standing, with_doubted}
use Rattle.gated_log.specs.Records.{records}
use Rattle.pair_log.specs.declared.side.Side.{Side}
use Rattle.pair_log.specs.declared.side.Side.TheVariants.{First}
use Rattle.pair_log.specs.Epochs.{read_pair}
use Rattle.pair_log.specs.Mounted.{first_record, or_first}

-- a log without its disk: its limit in bytes, its records, the place of the gate behind them, how many records it has room for, and how it stands
pub record SlotOutline : Type 0 where
  pub limit : ℕ
  pub payloads : List (List ℕ)
  pub end : ℕ
  pub spare : ℕ
  pub standing : Standing

-- The records of the manifest's disk that counts, and which one that is; the slots; and the slot whose last commit is in doubt.
pub record Outline : Type 0 where
  pub manifest : List (List ℕ)
  pub side : Side
  pub slots : List SlotOutline
  pub doubted : Option ℕ

abbrev pub no_slot : SlotOutline
no_slot = record { limit = 0; payloads = []; end = 0; spare = 0; standing = AtRest }

-- the slot at a place, an empty one where there is none
abbrev pub slot_at : List SlotOutline → ℕ → SlotOutline
slot_at slots place = slice_index_or slots place no_slot

abbrev pub slot_in : Outline → ℕ → SlotOutline
slot_in outline place = slot_at outline.slots place

-- with another slot at a place
abbrev pub with_slot : ℕ → SlotOutline → Outline → Outline
with_slot place slot outline = record outline { slots = slice_set outline.slots place slot }

-- the place of the slot that is doubted, 0 where none is
abbrev pub place_of : Option ℕ → ℕ
place_of None = 0
place_of (Some place) = place

abbrev pub doubted_place : Outline → ℕ
doubted_place outline = place_of outline.doubted

-- ---- what reads give

-- the records of the manifest's disk that counts, and those of each slot
pub record Reads : Type 0 where
  pub manifest : List (List ℕ)
  pub slots : List (List (List ℕ))

abbrev pub payloads_of : SlotOutline → List (List ℕ)
payloads_of slot = slot.payloads

-- the records of a slot with what is in doubt
abbrev pub payloads_after : SlotOutline → List (List ℕ)
payloads_after slot = with_doubted slot.standing slot.payloads

abbrev pub reads_of : Outline → Reads
reads_of outline = record { manifest = outline.manifest; slots = map payloads_of outline.slots }

abbrev pub reads_after : Outline → Reads
reads_after outline = record { manifest = outline.manifest; slots = map payloads_after outline.slots }

-- What a mount reads from the images of the disks in their order: the first two are the manifest's.
abbrev pub reads_in : List (List ℕ) → Reads
reads_in [] = record { manifest = []; slots = [] }
reads_in (first ∷ []) = record { manifest = []; slots = [] }
reads_in (first ∷ (second ∷ images)) = record { manifest = read_pair first second; slots = map records images }

-- the first snapshot of the manifest, where it has no record
abbrev pub with_first : List ℕ → Reads → Reads
with_first snapshot reads = record reads { manifest = or_first snapshot reads.manifest }

-- one more record in a slot, behind the others
abbrev pub with_record : ℕ → List ℕ → Reads → Reads
with_record slot payload reads = record reads { slots = slice_set reads.slots slot (slice_index_or reads.slots slot [] ++ payload ∷ []) }

abbrev pub IsEither : Reads → Reads → Reads → Type 0
IsEither before after reads = (reads ≡ before) ⊎ (reads ≡ after)

-- ---- examples

-- two new disks of the manifest and a slot with the record 58, whose last gate is torn to another byte
new_manifest : reads_in ((0 ∷ []) ∷ (0 ∷ []) ∷ (165 ∷ 0 ∷ 0 ∷ 0 ∷ 1 ∷ 88 ∷ 0 ∷ []) ∷ []) ≡ record { manifest = []; slots = ((88 ∷ []) ∷ []) ∷ [] }
new_manifest = refl

-- one disk alone is no shard
one_disk : reads_in ((1 ∷ 0 ∷ 0 ∷ 0 ∷ 1 ∷ 88 ∷ 0 ∷ []) ∷ []) ≡ record { manifest = []; slots = [] }
one_disk = refl

first_there : with_first (110 ∷ []) (record { manifest = []; slots = [] ∷ [] }) ≡ record { manifest = first_record (110 ∷ []) ∷ []; slots = [] ∷ [] }
first_there = refl

-- a record goes to its slot, and to none where there is no such slot
second_slot : with_record 1 (7 ∷ []) (record { manifest = []; slots = [] ∷ ((5 ∷ []) ∷ []) ∷ [] }) ≡ record { manifest = []; slots = [] ∷ ((5 ∷ []) ∷ (7 ∷ []) ∷ []) ∷ [] }
second_slot = refl

no_such_slot : with_record 3 (7 ∷ []) (record { manifest = []; slots = [] ∷ [] }) ≡ record { manifest = []; slots = [] ∷ [] }
no_such_slot = refl

-- a doubt counts in the reads after it alone
doubted_slot : Outline
doubted_slot = record { manifest = []; side = First; slots = record { limit = 99; payloads = (5 ∷ []) ∷ []; end = 6; spare = 1; standing = InDoubt (7 ∷ []) } ∷ []; doubted = Some 0 }

before_doubt : reads_of doubted_slot ≡ record { manifest = []; slots = ((5 ∷ []) ∷ []) ∷ [] }
unfolding doubted_slot
before_doubt = refl

after_doubt : reads_after doubted_slot ≡ record { manifest = []; slots = ((5 ∷ []) ∷ (7 ∷ []) ∷ []) ∷ [] }
unfolding doubted_slot
after_doubt = refl

-- of two disks of the manifest the one with the later epoch counts, whatever stands on the other; a log whose gate is torn open ends there
later_counts : (reads_in ((1 ∷ 0 ∷ 0 ∷ 0 ∷ 9 ∷ to_be_bytes w64 1 ++ 65 ∷ 0 ∷ []) ∷ (1 ∷ 0 ∷ 0 ∷ 0 ∷ 9 ∷ to_be_bytes w64 2 ++ 66 ∷ 0 ∷ []) ∷ (7 ∷ []) ∷ [])).manifest
    ≡ (to_be_bytes w64 2 ++ 66 ∷ []) ∷ []
later_counts = refl
