-- What the calls of a log do to its disk.
use Rattle.std.specs.Prelude.{ℕ, ◌≡◌, ◌⊎◌, ◌+◌, ◌≤◌, IsTrue, List, [], ◌∷◌, ◌++◌, length, take, drop, refl}
use Rattle.outside.specs.DiskModel.{AddsNone, DiskState, LeavesOnly}
use Rattle.gated_log.specs.Closing.{IsGateTorn}
use Rattle.gated_log.specs.PlainLog.{AllHave, PlainLog, end_of}
use Rattle.gated_log.specs.Records.{body_bytes, records}

-- a crash at any moment leaves an image that has P, where the disk tells
abbrev pub EachMoment : DiskState → DiskState → (List ℕ → Type 0) → Type 0
EachMoment old new P = IsTrue old.tells → LeavesOnly old new P

-- what a crash may leave of a log has its list, where the disk tells
abbrev pub ImagesHave : {D : Type 0} → (D → DiskState) → PlainLog D → Type 0
ImagesHave state log = IsTrue (state log.disk).tells → AllHave log.standing log.payloads (state log.disk).may_leave

-- with this record behind an open gate at a place, a closed gate behind it, and all else as it was
abbrev pub with_record : ℕ → List ℕ → List ℕ → List ℕ
with_record place payload old = take place old ++ (1 ∷ body_bytes payload) ++ drop (place + (6 + length payload)) old

-- Until the first call, a sync, has succeeded the images are those of the start; from then on each has the list.
abbrev pub IsRepaired : DiskState → DiskState → Type 0
IsRepaired old new = (image : List ℕ) → new.left_since (old.calls + 1) image → records image ≡ records old.seen

abbrev pub IsUnsynced : DiskState → DiskState → Type 0
IsUnsynced old new = (new.calls ≡ old.calls + 1) × AddsNone old.may_leave new.may_leave

-- What a mount does to a disk, also where it is refused: of the bytes it changes the gate at their end alone.
pub record IsMounting (old new : DiskState) : Type 0 where
  pub tells : new.tells ≡ old.tells
  pub arms : new.arms ≡ old.arms
  pub later : old.calls ≤ new.calls
  pub bytes : IsTrue old.tells → IsGateTorn (end_of (records old.seen)) old.seen new.seen
  pub moments : EachMoment old new (λ image. old.may_leave image ⊎ (records image ≡ records old.seen))
  pub phases : IsTrue old.tells → IsUnsynced old new ⊎ IsRepaired old new

-- examples: the bytes of the record 58 on a new log, and over what a failed commit left behind
first_bytes : with_record 0 (88 ∷ []) (0 ∷ []) ≡ 1 ∷ 0 ∷ 0 ∷ 0 ∷ 1 ∷ 88 ∷ 0 ∷ []
first_bytes = refl

over_junk : with_record 0 (88 ∷ []) (0 ∷ 0 ∷ 0 ∷ 0 ∷ 2 ∷ 9 ∷ 9 ∷ 7 ∷ 6 ∷ []) ≡ 1 ∷ 0 ∷ 0 ∷ 0 ∷ 1 ∷ 88 ∷ 0 ∷ 7 ∷ 6 ∷ []
over_junk = refl
