-- What the calls of a journal do to its pair of logs.
use Rattle.std.specs.Prelude.{ℕ, ◌≡◌, ◌⊎◌, ◌≤◌, IsErrOf, Result, Ok, Err, OnOk, OnErr, List}
use Rattle.outside.specs.Cause.{Rose}
use Rattle.outside.specs.DiskModel.{DiskState, WritesNone}
use Rattle.gated_log.specs.declared.settled.Settled.{Settled}
use Rattle.gated_log.specs.declared.settled.Settled.TheVariants.{In, Out}
use Rattle.pair_log.specs.declared.doubt.Doubt.TheVariants.{Nothing, Restart}
use Rattle.pair_log.specs.PlainPair.{EachMoment, HasEither, IsEither, PlainPair, Told, after_doubt, first_disk, second_disk}
use Rattle.session_journal.specs.declared.refused.JournalRefused.{JournalRefused}
use Rattle.session_journal.specs.declared.refused.JournalRefused.TheVariants.{Fault, Memory}

-- there is more room for records, and nothing else is changed
abbrev pub HasMoreRoom : {D : Type 0} → PlainPair D → PlainPair D → Type 0
HasMoreRoom old new =
    new
    ≡ record old {
      active = record old.active { spare = new.active.spare };
      standby = record old.standby { spare = new.standby.spare };
    }

-- both logs keep their limits
abbrev pub KeepsLimits : {D : Type 0} → PlainPair D → PlainPair D → Type 0
KeepsLimits old new =
    (limit : ℕ) → old.active.limit ≡ limit → old.standby.limit ≡ limit → (new.active.limit ≡ limit) × (new.standby.limit ≡ limit)

-- the disks tell what they told, and what was asked of them to fail stays
pub record KeepsDisks {D : Type 0} (state : D → DiskState) (old new : PlainPair D) : Type 0 where
  pub first_tells : (state (first_disk new)).tells ≡ (state (first_disk old)).tells
  pub second_tells : (state (second_disk new)).tells ≡ (state (second_disk old)).tells
  pub first_arms : (state (first_disk new)).arms ≡ (state (first_disk old)).arms
  pub second_arms : (state (second_disk new)).arms ≡ (state (second_disk old)).arms

-- The counts of faults of both disks never fall: a fault comes only where one rose, and beside every other answer both are what they were.
pub record IsBlamed {D : Type 0} {T : Type 0} (state : D → DiskState) (old new : PlainPair D) (result : Result T JournalRefused) : Type 0 where
  pub first_later : (state (first_disk old)).faults ≤ (state (first_disk new)).faults
  pub second_later : (state (second_disk old)).faults ≤ (state (second_disk new)).faults
  pub fault :
      IsErrOf result Fault →
      Rose (state (first_disk old)).faults (state (first_disk new)).faults ⊎ Rose (state (second_disk old)).faults (state (second_disk new)).faults
  pub first_kept : (IsErrOf result Fault → ⊥) → (state (first_disk new)).faults ≡ (state (first_disk old)).faults
  pub second_kept : (IsErrOf result Fault → ⊥) → (state (second_disk new)).faults ≡ (state (second_disk old)).faults

-- What a call did that is to make these the records of a pair. After a fault it is open, and told by what is in doubt.
pub record Makes {D : Type 0} (state : D → DiskState) (old new : PlainPair D) (after : List (List ℕ)) (result : Result Unit JournalRefused) : Type 0 where
  pub list : OnOk result (Told state old → new.active.payloads ≡ after)
  pub rests : OnOk result (new.doubt ≡ Nothing)
  pub memory : result ≡ Err Memory → HasMoreRoom old new
  pub in_doubt : result ≡ Err Fault → new.doubt ≡ Nothing → ⊥
  pub kept : OnErr result (Told state old → new.active.payloads ≡ old.active.payloads)
  pub undecided : result ≡ Err Fault → Told state old → (new.doubt ≡ Restart → ⊥) → after_doubt new ≡ after
  pub any_moment : EachMoment state old new (IsEither old.active.payloads after)
  pub images : HasEither state new
  pub limits : KeepsLimits old new
  pub disks : KeepsDisks state old new
  pub cause : IsBlamed state old new result

-- What a settle did: nothing is written, and each moment had the records of before, or these with what was in doubt.
pub record Settles {D : Type 0} (state : D → DiskState) (old new : PlainPair D) (result : Result Settled JournalRefused) : Type 0 where
  pub in_after : result ≡ Ok In → Told state old → new.active.payloads ≡ after_doubt old
  pub in_not_lost : result ≡ Ok In → old.doubt ≡ Restart → ⊥
  pub out_before : result ≡ Ok Out → new.active.payloads ≡ old.active.payloads
  pub rests : OnOk result (new.doubt ≡ Nothing)
  pub stays_open : OnErr result (new.doubt ≡ old.doubt)
  pub stays : OnErr result (new.active.payloads ≡ old.active.payloads)
  pub stays_after : OnErr result (after_doubt new ≡ after_doubt old)
  pub first_writes_none : WritesNone (state (first_disk old)) (state (first_disk new))
  pub second_writes_none : WritesNone (state (second_disk old)) (state (second_disk new))
  pub any_moment : EachMoment state old new (IsEither old.active.payloads (after_doubt old))
  pub images : HasEither state new
  pub limits : KeepsLimits old new
  pub disks : KeepsDisks state old new
  pub cause : IsBlamed state old new result

-- A pair that was only read: its disk moved and wrote nothing, and at each moment a mount would have read the same records.
pub record IsRead {D : Type 0} (state : D → DiskState) (old new : PlainPair D) : Type 0 where
  pub stays : new ≡ record old { active = record old.active { disk = new.active.disk }; past = new.past }
  pub writes_none : WritesNone (state old.active.disk) (state new.active.disk)
  pub moments : EachMoment state old new (λ payloads. payloads ≡ old.active.payloads)
  pub tells : (state new.active.disk).tells ≡ (state old.active.disk).tells
  pub arms : (state new.active.disk).arms ≡ (state old.active.disk).arms
