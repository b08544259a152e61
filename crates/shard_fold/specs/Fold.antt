-- What the records of a shard's disks hold: its list, or why they hold none.
use Rattle.std.specs.Prelude.{ℕ, ◌+◌, ◌==◌, ◌&&◌, not, is_none, is_some, nat_le, nat_lt, Bool, true, false, if◌then◌else◌, List, [], ◌∷◌, length, slice_get, slice_index_or, Option, Some, None}
use Rattle.std.specs.List.{list_all, list_any}
use Rattle.topic_model.specs.Profile.{whole}
use Rattle.topic_model.specs.Limits.{lies_between}
use Rattle.topic_name.specs.declared.descriptor.Descriptor.{Descriptor}
use Rattle.topic_name.specs.declared.mounting.What.{What}
use Rattle.topic_name.specs.declared.mounting.What.TheVariants.{Format, Shards, Workers, Number}
use Rattle.shard_model.specs.ShardList.{Cut, Awaited, ShardList, next_of}
use Rattle.shard_index.specs.KeptIndex.{cut_of}
use Rattle.shard_model.specs.Storing.{same_triple}
use Rattle.shard_index.specs.Triples.{are_distinct}
use Rattle.shard_index.specs.Absorbing.{absorbed_all, all_stand, begun}
use Rattle.record_codec.specs.declared.formats.TheConstants.{MANIFEST_FORMAT}
use Rattle.record_codec.specs.Records.{KeptGroup, KeptManifest, KeptOpening, index_ops}
use Rattle.record_codec.specs.Spelling.{spelled_manifest, spelled_opening}
use Rattle.record_codec.specs.Reading.{group_in, manifest_in, opening_in}
use Rattle.pair_log.specs.Epochs.{snapshot_of}
use Rattle.pair_log.specs.Mounted.{or_first}
use Rattle.shard_fold.specs.declared.asked.Asked.{Asked}
use Rattle.shard_fold.specs.declared.unread.Where.{Where}
use Rattle.shard_fold.specs.declared.unread.Where.TheVariants.{Manifest, Slot}

-- What is told; or a record of this log, whose gate stands at this place, that is damaged; or a value that isn't the one asked for: the one
-- that the disk keeps, and the one asked for.
pub data Folded (A : Type 0) : Type 0 where
  Holds : A → Folded A
  IsDamaged : Where → ℕ → Folded A
  HasAnother : What → ℕ → ℕ → Folded A

-- what comes of what is told; a refusal stays
abbrev pub and_then : {A B : Type 0} → Folded A → (A → Folded B) → Folded B
and_then (Holds x) next = next x
and_then (IsDamaged log place) next = IsDamaged log place
and_then (HasAnother what kept asked) next = HasAnother what kept asked

-- ---- the manifest

-- the numbers of a generation are within their limits, and its slot is one of eight
abbrev pub is_known_cut : Descriptor → Bool
is_known_cut cut =
    nat_lt cut.slot 8 && (lies_between 1 1000 cut.top && (lies_between 1 1000 cut.below && lies_between 1 32768 cut.messages))

-- a generation goes right before the next one: it is sealed, and doesn't begin behind it
abbrev pub goes_before : Descriptor → Descriptor → Bool
goes_before cut next = (next.number == cut.number + 1) && (nat_le cut.first next.first && is_some cut.sealed)

-- each goes before the next one, and the last isn't sealed
abbrev pub are_in_row : List Descriptor → Bool
are_in_row [] = false
are_in_row (cut ∷ []) = is_none cut.sealed
are_in_row (cut ∷ next ∷ cuts) = goes_before cut next && are_in_row (next ∷ cuts)

-- each has a slot of its own
abbrev pub have_own_slots : List Descriptor → Bool
have_own_slots [] = true
have_own_slots (cut ∷ cuts) = not (list_any (λ (other : Descriptor). cut.slot == other.slot) cuts) && have_own_slots cuts

abbrev pub are_sound_cuts : List Descriptor → Bool
are_sound_cuts cuts = list_all is_known_cut cuts && (are_in_row cuts && have_own_slots cuts)

abbrev pub is_sound_manifest : KeptManifest → Bool
is_sound_manifest m = lies_between 1 8 m.shards && (lies_between 1 16 m.workers && are_sound_cuts m.cuts)

-- whether it is damaged is tested before its shards, its workers and its number
abbrev pub as_asked : Asked → KeptManifest → Folded (List Descriptor)
as_asked asked m =
    if m.shards == asked.config.shards
    then (if m.workers == asked.config.workers then (if m.shard == asked.shard then Holds m.cuts else HasAnother Number m.shard asked.shard)
    else HasAnother Workers m.workers asked.config.workers)
    else HasAnother Shards m.shards asked.config.shards

abbrev pub checked : Asked → Option KeptManifest → Folded (List Descriptor)
checked asked None = IsDamaged Manifest 0
checked asked (Some m) = if is_sound_manifest m then as_asked asked m else IsDamaged Manifest 0

-- its format is told by its first byte, and is tested first
abbrev pub read_by : Asked → List ℕ → Option ℕ → Folded (List Descriptor)
read_by asked bytes None = IsDamaged Manifest 0
read_by asked bytes (Some format) = if format == MANIFEST_FORMAT then checked asked (manifest_in bytes) else HasAnother Format format MANIFEST_FORMAT

-- the generations that a manifest names
unfoldable pub cuts_in : Asked → List ℕ → Folded (List Descriptor)
cuts_in asked bytes = read_by asked bytes (slice_get bytes 0)

-- no record stands behind a manifest
abbrev pub alone : {A : Type 0} → ℕ → List (List ℕ) → A → Folded A
alone place [] x = Holds x
alone place (payload ∷ payloads) x = IsDamaged Manifest place

abbrev pub cuts_told : Asked → List (List ℕ) → Folded (List Descriptor)
cuts_told asked [] = IsDamaged Manifest 0
cuts_told asked (payload ∷ payloads) = and_then (cuts_in asked (snapshot_of payload)) (alone (5 + length payload) payloads)

-- ---- a new shard

-- one generation, with number 0, in slot 0, from offset 0 on, with the configuration's values
abbrev pub first_cut : Asked → Descriptor
first_cut asked =
    record {
      number = 0;
      slot = 0;
      first = 0;
      top = asked.config.top;
      below = asked.config.below;
      messages = asked.config.messages;
      sealed = None;
    }

abbrev pub manifest_of : Asked → List Descriptor → KeptManifest
manifest_of asked cuts = record { shards = asked.config.shards; workers = asked.config.workers; shard = asked.shard; cuts = cuts }

abbrev pub first_manifest : Asked → List ℕ
first_manifest asked = spelled_manifest (manifest_of asked (first_cut asked ∷ []))

-- at its beginning nothing is awaited
abbrev pub first_opening : List ℕ
first_opening = spelled_opening (record { generation = 0; first = 0; awaited = [] })

-- a manifest as that of a shard whose first generation was never written
abbrev pub is_new : List Descriptor → Bool
is_new [] = false
is_new (cut ∷ []) = (cut.number == 0) && ((cut.slot == 0) && ((cut.first == 0) && is_none cut.sealed))
is_new (cut ∷ next ∷ cuts) = false

-- its slot without a record counts as one with that opening
abbrev pub or_opening : Bool → List (List ℕ) → List (List ℕ)
or_opening true [] = first_opening ∷ []
or_opening true (payload ∷ payloads) = payload ∷ payloads
or_opening false payloads = payloads

abbrev pub records_of : List (List (List ℕ)) → List Descriptor → ℕ → List (List ℕ)
records_of slots cuts slot = or_opening (is_new cuts) (slice_index_or slots slot [])

-- ---- groups

-- Its first offset is the next one, each operation can stand, and not too many identifiers are awaited then.
abbrev pub goes_on : ShardList → KeptGroup → Bool
goes_on list g =
    (g.first == next_of list)
    && (all_stand list (index_ops g.ops) && nat_le (length (absorbed_all (index_ops g.ops) list).awaited) whole.awaited)

abbrev pub with_group : ℕ → ℕ → ShardList → Option KeptGroup → Folded ShardList
with_group slot place list None = IsDamaged (Slot slot) place
with_group slot place list (Some g) = if goes_on list g then Holds (absorbed_all (index_ops g.ops) list) else IsDamaged (Slot slot) place

-- a record of a slot, at its place, behind those before it
abbrev pub with_record : ℕ → ℕ → List ℕ → Folded ShardList → Folded ShardList
with_record slot place payload so_far = and_then so_far (λ list. with_group slot place list (group_in payload))

-- the records of a slot from a place on
abbrev pub with_records : ℕ → ℕ → Folded ShardList → List (List ℕ) → Folded ShardList
with_records slot place so_far [] = so_far
with_records slot place so_far (payload ∷ payloads) =
    with_records slot (place + (5 + length payload)) (with_record slot place payload so_far) payloads

-- ---- generations

-- as it stands before it is sealed
abbrev pub unsealed : Descriptor → Descriptor
unsealed cut = record cut { sealed = None }

abbrev pub is_opening_of : Descriptor → KeptOpening → Bool
is_opening_of cut o = (o.generation == cut.number) && (o.first == cut.first)

-- of the oldest generation: no identifier is awaited twice, and not too many are
abbrev pub opens : Descriptor → KeptOpening → Bool
opens cut o = is_opening_of cut o && (nat_le (length o.awaited) whole.awaited && are_distinct o.awaited)

abbrev pub opened : ℕ → Descriptor → Option KeptOpening → Folded ShardList
opened slot cut None = IsDamaged (Slot slot) 0
opened slot cut (Some o) =
    if opens cut o then Holds (record { cuts = cut_of (unsealed cut) ∷ []; messages = []; awaited = o.awaited }) else IsDamaged (Slot slot) 0

-- of a later one: it begins where the one before it ends, with what is awaited then
abbrev pub are_same : List Awaited → List Awaited → Bool
are_same [] [] = true
are_same [] (b ∷ others) = false
are_same (a ∷ awaited) [] = false
are_same (a ∷ awaited) (b ∷ others) = same_triple a b && are_same awaited others

abbrev pub opens_behind : ShardList → Descriptor → KeptOpening → Bool
opens_behind list cut o = is_opening_of cut o && ((o.first == next_of list) && are_same o.awaited list.awaited)

-- the one before it was sealed at this moment
abbrev pub begun_at : Option ℕ → Cut → ShardList → ShardList
begun_at (Some moment) cut list = begun moment cut list
begun_at None cut list = list

abbrev pub opened_behind : ℕ → ShardList → Option ℕ → Descriptor → Option KeptOpening → Folded ShardList
opened_behind slot list sealed cut None = IsDamaged (Slot slot) 0
opened_behind slot list sealed cut (Some o) =
    if opens_behind list cut o then Holds (begun_at sealed (cut_of (unsealed cut)) list) else IsDamaged (Slot slot) 0

-- the records of a generation's slot: its opening, and groups; an opening that is missing is damaged
abbrev pub generation_told : (Option KeptOpening → Folded ShardList) → ℕ → List (List ℕ) → Folded ShardList
generation_told by slot [] = IsDamaged (Slot slot) 0
generation_told by slot (payload ∷ payloads) = with_records slot (5 + length payload) (by (opening_in payload)) payloads

abbrev pub oldest_told : (ℕ → List (List ℕ)) → Descriptor → Folded ShardList
oldest_told records cut = generation_told (opened cut.slot cut) cut.slot (records cut.slot)

abbrev pub later_told : (ℕ → List (List ℕ)) → Descriptor → Descriptor → ShardList → Folded ShardList
later_told records before cut list = generation_told (opened_behind cut.slot list before.sealed cut) cut.slot (records cut.slot)

-- generations behind one, the oldest first
abbrev pub later_all_told : (ℕ → List (List ℕ)) → Descriptor → Folded ShardList → List Descriptor → Folded ShardList
later_all_told records before so_far [] = so_far
later_all_told records before so_far (cut ∷ cuts) =
    later_all_told records cut (and_then so_far (later_told records before cut)) cuts

abbrev pub all_told : (ℕ → List (List ℕ)) → List Descriptor → Folded ShardList
all_told records [] = IsDamaged Manifest 0
all_told records (cut ∷ cuts) = later_all_told records cut (oldest_told records cut) cuts

-- ---- all records: of the manifest's disk that counts, and of the slots

unfoldable pub folded : Asked → List (List ℕ) → List (List (List ℕ)) → Folded ShardList
folded asked manifest slots =
    and_then (cuts_told asked (or_first (first_manifest asked) manifest)) (λ cuts. all_told (records_of slots cuts) cuts)
