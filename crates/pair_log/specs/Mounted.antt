-- What a pair is mounted from.
use Rattle.std.specs.Prelude.{ℕ, ◌≡◌, ◌⊎◌, ◌+◌, ◌<◌, Bool, true, false, if◌then◌else◌, refl, IsTrue, List, [], ◌∷◌, ◌++◌, length, Option, Some, None}
use Rattle.std.specs.Int.{w64, to_be_bytes}
use Rattle.outside.specs.Along.{Keeps, WithinBoth}
use Rattle.outside.specs.DiskModel.{DiskState, Torn}
use Rattle.gated_log.specs.Blame.{IsBlamedFor}
use Rattle.gated_log.specs.Calls.{with_record}
use Rattle.gated_log.specs.Closing.{IsGateTorn, with_gate}
use Rattle.gated_log.specs.PlainLog.{end_of}
use Rattle.gated_log.specs.Records.{records}
use Rattle.gated_log.specs.declared.refused.LogRefused.{LogRefused}
use Rattle.pair_log.specs.declared.side.Side.{Side}
use Rattle.pair_log.specs.declared.side.Side.TheVariants.{First, Second}
use Rattle.pair_log.specs.Epochs.{active_records, epoch_of, is_later, second_counts}
use Rattle.pair_log.specs.PlainPair.{PlainPair, both_disks}

-- the first record of two new disks
abbrev pub first_record : List ℕ → List ℕ
first_record snapshot = to_be_bytes w64 1 ++ snapshot

-- a first record of this snapshot passes the limit, or the most that a payload may have
abbrev pub IsTooLong : ℕ → List ℕ → Type 0
IsTooLong limit snapshot = (limit < 14 + length snapshot) ⊎ (1342177272 < length snapshot)

-- it is there where there was none
abbrev pub or_first : List ℕ → List (List ℕ) → List (List ℕ)
or_first snapshot [] = first_record snapshot ∷ []
or_first snapshot (payload ∷ payloads) = payload ∷ payloads

-- what the first log holds then
abbrev pub begun : List ℕ → List (List ℕ) → List (List ℕ) → List (List ℕ)
begun snapshot [] [] = first_record snapshot ∷ []
begun snapshot first second = first

-- what is written to the first disk then, once both have a closed gate behind their records
abbrev pub written_first : List ℕ → List (List ℕ) → List (List ℕ) → List ℕ → List ℕ
written_first snapshot [] [] old = with_record 0 (first_record snapshot) old
written_first snapshot first second old = old

-- the bytes of the first disk after a mount: a closed gate behind the records, and the first record if there was none
abbrev pub mounted_first : List ℕ → List (List ℕ) → List (List ℕ) → List ℕ → List ℕ
mounted_first snapshot [] [] old = with_record 0 (first_record snapshot) old
mounted_first snapshot first second old = with_gate (end_of first) 0 old

-- the same where one of these was refused or failed: what may be there of it
abbrev pub IsWrittenTorn : List ℕ → List (List ℕ) → List (List ℕ) → List ℕ → List ℕ → Type 0
IsWrittenTorn snapshot [] [] old new = Torn 0 (6 + length (first_record snapshot)) old new
IsWrittenTorn snapshot first second old new = new ≡ old

abbrev pub IsMountTorn : List ℕ → List (List ℕ) → List (List ℕ) → List ℕ → List ℕ → Type 0
IsMountTorn snapshot [] [] old new = Torn 0 (6 + length (first_record snapshot)) old new
IsMountTorn snapshot first second old new = IsGateTorn (end_of first) old new

-- neither disk has a record
abbrev pub HasNone : List (List ℕ) → List (List ℕ) → Type 0
HasNone first second = (first ≡ []) × (second ≡ [])

-- which disk counts, by the records of both
abbrev pub side_by : Bool → Side
side_by false = First
side_by true = Second

abbrev pub side_of : List (List ℕ) → List (List ℕ) → Side
side_of first second = side_by (second_counts first second)

-- Images during a mount: of each disk one of its start, or one with the same list; on the first disk perhaps with the
-- first record, where neither had one.
abbrev pub IsMounting : (List ℕ → Type 0) → List (List ℕ) → List ℕ → Type 0
IsMounting images list image = images image ⊎ (records image ≡ list)

abbrev pub IsBegun : List (List ℕ) → List (List ℕ) → List ℕ → List ℕ → Type 0
IsBegun first second snapshot image = (records image ≡ first) ⊎ (records image ≡ begun snapshot first second)

abbrev pub IsBeginning : (List ℕ → Type 0) → List (List ℕ) → List (List ℕ) → List ℕ → List ℕ → Type 0
IsBeginning images first second snapshot image = images image ⊎ IsBegun first second snapshot image

-- Of the states of both disks at the start: what an image of each may be at a moment of the mount.
abbrev pub AreMounting : DiskState → DiskState → List ℕ → List ℕ × List ℕ → Type 0
AreMounting first second snapshot images =
    IsBeginning first.may_leave (records first.seen) (records second.seen) snapshot images.0
    × IsMounting second.may_leave (records second.seen) images.1

-- At each moment of the mount the images are so, and its states are in the pair's history.
abbrev pub MountKeeps : {D : Type 0} → (D → DiskState) → D → D → List ℕ → PlainPair D → Type 0
MountKeeps state first second snapshot pair = IsTrue (state first).tells → IsTrue (state second).tells
    → Keeps (WithinBoth state) (AreMounting (state first) (state second) snapshot) [] (first, second) pair.past (both_disks pair)

-- the epoch of a log's record 0, none where it has no record
abbrev pub epoch_in : List (List ℕ) → Option ℕ
epoch_in [] = None
epoch_in (payload ∷ payloads) = Some (epoch_of payload)

abbrev pub second_later : Option ℕ → Option ℕ → Bool
second_later first None = false
second_later None (Some second) = true
second_later (Some first) (Some second) = is_later first second

-- Of the counts of faults of both disks, before and after: the disk on this side is to blame, and the other's stayed.
abbrev pub IsBlamedOn : Side → LogRefused → ℕ → ℕ → ℕ → ℕ → Type 0
IsBlamedOn First why first second first_now second_now = IsBlamedFor first first_now why × (second_now ≡ second)
IsBlamedOn Second why first second first_now second_now = (first_now ≡ first) × IsBlamedFor second second_now why

-- examples: the first mount of two new disks, and a later one whose first disk has the record 58
new_disks : mounted_first (110 ∷ []) [] [] (0 ∷ []) ≡ 1 ∷ 0 ∷ 0 ∷ 0 ∷ 9 ∷ 0 ∷ 0 ∷ 0 ∷ 0 ∷ 0 ∷ 0 ∷ 0 ∷ 1 ∷ 110 ∷ 0 ∷ []
new_disks = refl

later_mount : mounted_first (110 ∷ []) ((88 ∷ []) ∷ []) [] (1 ∷ 0 ∷ 0 ∷ 0 ∷ 1 ∷ 88 ∷ 3 ∷ 9 ∷ []) ≡ 1 ∷ 0 ∷ 0 ∷ 0 ∷ 1 ∷ 88 ∷ 0 ∷ 9 ∷ []
later_mount = refl

-- law: the list that counts after a mount
pub begun_read : (snapshot : List ℕ) (first second : List (List ℕ)) → active_records (begun snapshot first second) second ≡ or_first snapshot (active_records first second)
begun_read snapshot [] [] = refl
begun_read snapshot [] (y ∷ ys) = refl
begun_read snapshot (x ∷ xs) [] = refl
begun_read snapshot (x ∷ xs) (y ∷ ys) = either_way (is_later (epoch_of x) (epoch_of y))
  where
    either_way : (b : Bool) → (if b then y ∷ ys else x ∷ xs) ≡ or_first snapshot (if b then y ∷ ys else x ∷ xs)
    either_way true = refl
    either_way false = refl
