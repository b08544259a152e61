-- What one call does to the log of a slot.
use Rattle.std.specs.Prelude.{ℕ, ◌≡◌, ◌↔◌, ◌+◌, ◌<◌, ◌≤◌, IsTrue, IfOk, IsErrOf, Result, Ok, OnOk, OnErr, List, [], ◌∷◌, ◌++◌, length, take, drop, slice_index_or}
use Rattle.outside.specs.DiskModel as disks
use Rattle.outside.specs.DiskModel.{DiskState, Torn, WritesNone}
use Rattle.gated_log.specs.Blame.{IsBlamed}
use Rattle.gated_log.specs.Calls.{EachMoment, ImagesHave, with_record}
use Rattle.gated_log.specs.PlainLog.{AtRest, HasList, InDoubt, PlainLog, doubted_length, with_doubted}
use Rattle.gated_log.specs.Stands.{IsBeforeOrAfter}
use Rattle.gated_log.specs.declared.refused.LogRefused.{LogRefused}
use Rattle.gated_log.specs.declared.refused.LogRefused.TheVariants.{Fault}
use Rattle.gated_log.specs.declared.settled.Settled.{Settled}
use Rattle.gated_log.specs.declared.settled.Settled.TheVariants.{In, Out}

-- It reached the disk, at each moment of it an image has P, and what a crash leaves then has the list.
pub record IsLogCalled {D T : Type 0} (state : D → DiskState) (P : List ℕ → Type 0) (result : Result T LogRefused) (old new : PlainLog D) : Type 0 where
  pub tells : (state new.disk).tells ≡ (state old.disk).tells
  pub arms : (state new.disk).arms ≡ (state old.disk).arms
  pub any_moment : EachMoment (state old.disk) (state new.disk) P
  pub images : ImagesHave state new
  pub cause : IsBlamed (state old.disk).faults (state new.disk).faults result

-- It only read record k, which came behind these bytes.
pub record IsLogRead {D : Type 0} (state : D → DiskState) (k : ℕ) (before now : List ℕ) (result : Result Unit LogRefused) (old new : PlainLog D) : Type 0 where
  pub bytes : OnOk result (IsTrue (state old.disk).tells → now ≡ before ++ slice_index_or old.payloads k [])
  pub called : IsLogCalled state (HasList old.standing old.payloads) result old new
  pub stays : new ≡ record old { disk = new.disk }
  pub writes_none : WritesNone (state old.disk) (state new.disk)

-- It committed a record that fits, or failed.
pub record CommitsLog {D : Type 0} (state : D → DiskState) (draft : List ℕ) (result : Result Unit LogRefused) (old new : PlainLog D) : Type 0 where
  pub list : OnOk result (IsTrue (state old.disk).tells → new.payloads ≡ old.payloads ++ draft ∷ [])
  pub bytes : OnOk result (IsTrue (state old.disk).tells → (state new.disk).seen ≡ with_record old.end draft (state old.disk).seen)
  pub stays : OnOk result (new ≡ record old { disk = new.disk; payloads = new.payloads; end = old.end + (5 + length draft); spare = new.spare })
  pub in_doubt : OnErr result (new ≡ record old { disk = new.disk; payloads = new.payloads; standing = InDoubt draft })
  pub kept : OnErr result (IsTrue (state old.disk).tells → new.payloads ≡ old.payloads)
  pub torn : IsTrue (state old.disk).tells → Torn old.end (6 + length draft) (state old.disk).seen (state new.disk).seen
  pub only_fault : OnErr result (IsErrOf result Fault)
  pub called : IsLogCalled state (IsBeforeOrAfter old.payloads draft) result old new

-- It ended a doubt, or failed.
pub record SettlesLog {D : Type 0} (state : D → DiskState) (result : Result Settled LogRefused) (old new : PlainLog D) : Type 0 where
  pub exact :
      IfOk result (λ settled. IsTrue (state old.disk).tells → (settled ≡ Out) ↔ (take 1 (drop old.end (state old.disk).seen) ≡ 0 ∷ []))
  pub in_after : result ≡ Ok In → IsTrue (state old.disk).tells → new.payloads ≡ with_doubted old.standing old.payloads
  pub in_stays :
      result ≡ Ok In →
      new
      ≡ record old {
        disk = new.disk;
        payloads = new.payloads;
        end = old.end + (5 + doubted_length old.standing);
        spare = new.spare;
        standing = AtRest;
      }
  pub out_stays : result ≡ Ok Out → new ≡ record old { disk = new.disk; standing = AtRest }
  pub fault_stays : OnErr result (new ≡ record old { disk = new.disk })
  pub rests : OnOk result (new.standing ≡ AtRest)
  pub only_fault : OnErr result (IsErrOf result Fault)
  pub writes_none : WritesNone (state old.disk) (state new.disk)
  pub called : IsLogCalled state (HasList old.standing old.payloads) result old new

-- There is more room.
pub record HasMoreRoom {D T E : Type 0} (result : Result T E) (old new : PlainLog D) : Type 0 where
  pub stays : new ≡ record old { spare = new.spare }
  pub room : OnOk result (0 < new.spare)
  pub more : old.spare ≤ new.spare

-- A failure was asked for.
pub record ArmsLog {D T E : Type 0} (state : D → DiskState) (arms : D → D → Type 0) (result : Result T E) (old new : PlainLog D) : Type 0 where
  pub armed : OnOk result (arms old.disk new.disk)
  pub refused : OnErr result (new ≡ old)
  pub stays : new ≡ record old { disk = new.disk }
  pub nothing_else : disks.IsArmed (state old.disk) (state new.disk)
