-- What callers see of a journal.
use Rattle.std.specs.Prelude.{ℕ, ◌≡◌, ◌+◌, ◌*◌, ◌<◌, ◌≤◌, ◌==◌, ◌&&◌, nat_le, Bool, IsTrue, List, length}
use Rattle.outside.specs.DiskModel.{DiskState}
use Rattle.pair_log.specs.declared.doubt.Doubt.TheVariants.{Restart}
use Rattle.pair_log.specs.Epochs.{snapshot_of}
use Rattle.pair_log.specs.PlainPair.{EachMoment, PairReads, PlainPair, Told, after_doubt, head_of}
use Rattle.session_state.specs.declared.change.Change.{Change}
use Rattle.session_codec.specs.declared.formats.TheConstants.{SECOND_FORMAT}
use Rattle.session_codec.specs.Spelling.{spelled_changes}
use Rattle.session_codec.specs.HasSpelling.{is_format}
use Rattle.session_journal.specs.declared.asked.Asked.{Asked}
use Rattle.session_journal.specs.declared.head.Head.{Head}
use Rattle.session_journal.specs.declared.limits.TheConstants.{MOST_BYTES, MOST_SNAPSHOT, SPARE_BYTES}
use Rattle.session_journal.specs.Fold.{Folded, Holds, FoldsEither, folded, format_told}

-- The pair of logs; what it was asked to be; the format and the length of the snapshot that counts, and of the one that counts once what is
-- in doubt is In.
pub record PlainJournal (D : Type 0) : Type 0 where
  pub pair : PlainPair D
  pub asked : Asked
  pub head : Head
  pub next : Head

-- what the records hold, and what they hold with what is in doubt
abbrev pub held : {D : Type 0} → PlainJournal D → Folded
held journal = folded journal.asked journal.pair.active.payloads

abbrev pub held_after : {D : Type 0} → PlainJournal D → Folded
held_after journal = folded journal.asked (after_doubt journal.pair)

-- the format and the length of the first record's snapshot
abbrev pub head_told : List (List ℕ) → Head
head_told payloads = record { format = format_told (snapshot_of (head_of payloads)); bytes = length (snapshot_of (head_of payloads)) }

-- a record of these changes goes behind the others: the journal has the format that is written, and stays within twice its snapshot and four
-- mebibytes; else it is rewritten
abbrev pub appends : {D : Type 0} → PlainJournal D → List Change → Bool
appends journal changes =
    (journal.head.format == SECOND_FORMAT)
    && nat_le (journal.pair.active.end + (6 + length (spelled_changes SECOND_FORMAT changes))) (2 * journal.head.bytes + SPARE_BYTES)

-- ---- what a crash leaves

-- at each moment from the old journal to the new one, each two images of the disks hold the one or the other
abbrev pub EachHolds : {D : Type 0} → (D → DiskState) → PlainJournal D → PlainJournal D → Folded → Folded → Type 0
EachHolds state old new before after = EachMoment state old.pair new.pair (FoldsEither old.asked before after)

-- each two images of the disks now do
abbrev pub ImagesHold : {D : Type 0} → (D → DiskState) → PlainJournal D → Folded → Folded → Type 0
ImagesHold state journal before after = Told state journal.pair → PairReads state journal.pair (FoldsEither journal.asked before after)

-- ---- what stays

-- there is more room for records, and nothing else is changed
abbrev pub IsRoomier : {D : Type 0} → PlainJournal D → PlainJournal D → Type 0
IsRoomier old new =
    new
    ≡ record old {
      pair = record old.pair {
        active = record old.pair.active { spare = new.pair.active.spare };
        standby = record old.pair.standby { spare = new.pair.standby.spare };
      };
    }

-- ---- what every journal keeps

-- at most eight shards and sixteen workers, of which it is one
pub record IsAsked (asked : Asked) : Type 0 where
  pub few_shards : asked.shards ≤ 8
  pub few_workers : asked.workers ≤ 16
  pub among : asked.worker < asked.workers

-- one of the two formats, and in the one that is written no longer than a snapshot can be
pub record IsHead (head : Head) : Type 0 where
  pub format : IsTrue (is_format head.format)
  pub short : head.format ≡ SECOND_FORMAT → head.bytes ≤ MOST_SNAPSHOT

abbrev pub IsHolding : Folded → Type 0
IsHolding (Holds sessions) = Unit {0}
IsHolding other = ⊥

-- there is a snapshot with this head, and the records hold sessions
pub record HasHead (asked : Asked) (head : Head) (payloads : List (List ℕ)) : Type 0 where
  pub some : 0 < length payloads
  pub holds : IsHolding (folded asked payloads)
  pub told : head ≡ head_told payloads

-- so do those with what is in doubt; after a restart that failed these are the same
pub record IsToldJournal {D : Type 0} (journal : PlainJournal D) : Type 0 where
  pub now : HasHead journal.asked journal.head journal.pair.active.payloads
  pub after : (journal.pair.doubt ≡ Restart → ⊥) → HasHead journal.asked journal.next (after_doubt journal.pair)

pub record IsJournal {D : Type 0} (state : D → DiskState) (journal : PlainJournal D) : Type 0 where
  pub asked : IsAsked journal.asked
  pub head : IsHead journal.head
  pub next : IsHead journal.next
  pub limit : journal.pair.active.limit ≡ MOST_BYTES
  pub standby_limit : journal.pair.standby.limit ≡ MOST_BYTES
  pub told : Told state journal.pair → IsToldJournal journal
