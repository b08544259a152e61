-- What the records of a worker's journal hold: its sessions, or why they hold none.
use Rattle.std.specs.Prelude.{ℕ, ◌≡◌, ◌⊎◌, ◌+◌, ◌==◌, if◌then◌else◌, List, [], ◌∷◌, length, slice_get, slice_index_or, Option, Some, None}
use Rattle.topic_model.specs.Profile.{whole}
use Rattle.topic_name.specs.declared.mounting.What.{What}
use Rattle.topic_name.specs.declared.mounting.What.TheVariants.{Format, Shards, Workers, Number}
use Rattle.session_state.specs.declared.change.Change.{Change}
use Rattle.session_state.specs.KeptSession.{KeptSessions, no_kept_sessions}
use Rattle.session_state.specs.KeptActing.{kept_acted_all}
use Rattle.session_state.specs.KeptFits.{kept_fit_all}
use Rattle.session_codec.specs.declared.formats.TheConstants.{SECOND_FORMAT}
use Rattle.session_codec.specs.Spelling.{KeptSnapshot}
use Rattle.session_codec.specs.HasSpelling.{is_format}
use Rattle.session_codec.specs.Reading.{changes_in, snapshot_in}
use Rattle.pair_log.specs.Epochs.{snapshot_of}
use Rattle.session_journal.specs.declared.asked.Asked.{Asked}

-- These sessions; or a record, whose gate stands at this place, that is damaged; or a value that isn't the one asked for: the one that the
-- disk keeps, and the one asked for.
pub data Folded : Type 0 where
  Holds : KeptSessions → Folded
  IsDamaged : ℕ → Folded
  HasAnother : What → ℕ → ℕ → Folded

-- ---- the snapshot

-- one that was read has the numbers asked for
abbrev pub checked : Asked → KeptSnapshot → Folded
checked asked s =
    if s.shards == asked.shards then (if s.workers == asked.workers then (if s.worker == asked.worker then Holds s.sessions else HasAnother Number s.worker asked.worker)
    else HasAnother Workers s.workers asked.workers)
    else HasAnother Shards s.shards asked.shards

abbrev pub read_or_damaged : Asked → Option KeptSnapshot → Folded
read_or_damaged asked None = IsDamaged 0
read_or_damaged asked (Some s) = checked asked s

-- its format is told by its first byte, and is tested first
abbrev pub opened_by : Asked → List ℕ → Option ℕ → Folded
opened_by asked bytes None = IsDamaged 0
opened_by asked bytes (Some format) = if is_format format then read_or_damaged asked (snapshot_in bytes) else HasAnother Format format SECOND_FORMAT

unfoldable pub opened : Asked → List ℕ → Folded
opened asked bytes = opened_by asked bytes (slice_get bytes 0)

-- the format, where the snapshot has a byte
abbrev pub format_told : List ℕ → ℕ
format_told bytes = slice_index_or bytes 0 0

-- ---- the records behind it

-- the changes of a record, at its place, that fit one after the other
abbrev pub applied : ℕ → KeptSessions → Option (List Change) → Folded
applied place sessions None = IsDamaged place
applied place sessions (Some changes) = if kept_fit_all whole sessions changes then Holds (kept_acted_all changes sessions) else IsDamaged place

-- a record, in a format and with so many shards, after those before it: the first refusal stays
abbrev pub with_changes : ℕ → ℕ → ℕ → List ℕ → Folded → Folded
with_changes format shards place bytes (Holds sessions) = applied place sessions (changes_in format shards bytes)
with_changes format shards place bytes (IsDamaged at) = IsDamaged at
with_changes format shards place bytes (HasAnother what kept asked) = HasAnother what kept asked

-- the records from a place on
abbrev pub fold_records : ℕ → ℕ → ℕ → Folded → List (List ℕ) → Folded
fold_records format shards place so_far [] = so_far
fold_records format shards place so_far (payload ∷ payloads) =
    fold_records format shards (place + (5 + length payload)) (with_changes format shards place payload so_far) payloads

-- ---- all records

-- none are the journal of a worker that has no sessions yet; the first is a snapshot behind its epoch
unfoldable pub folded : Asked → List (List ℕ) → Folded
folded asked [] = Holds no_kept_sessions
folded asked (payload ∷ payloads) =
    fold_records (format_told (snapshot_of payload)) asked.shards (5 + length payload) (opened asked (snapshot_of payload)) payloads

-- these records hold the one or the other
abbrev pub FoldsEither : Asked → Folded → Folded → List (List ℕ) → Type 0
FoldsEither asked before after payloads = (folded asked payloads ≡ before) ⊎ (folded asked payloads ≡ after)
