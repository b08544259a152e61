-- What a commit and a settle leave.
use Rattle.std.specs.Prelude.{◌≡◌, Result, Ok, Err, OnOk, OnErr}
use Rattle.outside.specs.DiskModel.{DiskState, WritesNone}
use Rattle.gated_log.specs.declared.settled.Settled.{Settled}
use Rattle.gated_log.specs.declared.settled.Settled.TheVariants.{In, Out}
use Rattle.pair_log.specs.declared.doubt.Doubt.TheVariants.{Nothing, Restart}
use Rattle.pair_log.specs.PlainPair.{Told, first_disk, second_disk}
use Rattle.session_state.specs.KeptSession.{KeptSessions}
use Rattle.session_journal.specs.declared.head.Head.{Head}
use Rattle.session_journal.specs.declared.refused.JournalRefused.{JournalRefused}
use Rattle.session_journal.specs.declared.refused.JournalRefused.TheVariants.{Fault, Memory}
use Rattle.session_journal.specs.Fold.{Holds}
use Rattle.session_journal.specs.PairCalls.{IsBlamed, KeepsDisks}
use Rattle.session_journal.specs.PlainJournal.{EachHolds, ImagesHold, IsRoomier, PlainJournal, held, held_after}

-- After a commit that turns sessions into others: Ok has these, in each two images of the disks; want of memory changes nothing; after a fault
-- the sessions are those before, and with what is in doubt those after, or, where the record can't be there, those before. At each moment
-- each two images hold the one or the other.
pub record Commits {D : Type 0} (state : D → DiskState) (old new : PlainJournal D) (before after : KeptSessions) (result : Result Unit JournalRefused) : Type 0 where
  pub holds : OnOk result (Told state old.pair → held new ≡ Holds after)
  pub durable : OnOk result (ImagesHold state new (Holds after) (Holds after))
  pub rests : OnOk result (new.pair.doubt ≡ Nothing)
  pub memory : result ≡ Err Memory → IsRoomier old new
  pub in_doubt : result ≡ Err Fault → new.pair.doubt ≡ Nothing → ⊥
  pub kept : OnErr result (Told state old.pair → held new ≡ Holds before)
  pub undecided : result ≡ Err Fault → Told state old.pair → (new.pair.doubt ≡ Restart → ⊥) → held_after new ≡ Holds after
  pub lost : result ≡ Err Fault → Told state old.pair → new.pair.doubt ≡ Restart → held_after new ≡ Holds before
  pub any_moment : EachHolds state old new (Holds before) (Holds after)
  pub images : ImagesHold state new (Holds before) (Holds after)
  pub asked : new.asked ≡ old.asked
  pub disks : KeepsDisks state old.pair new.pair
  pub cause : IsBlamed state old.pair new.pair result

-- After a settle: In has what is held with what was in doubt, Out what was held before, and after a fault the doubt stays. Nothing is written.
pub record EndsDoubt {D : Type 0} (state : D → DiskState) (old new : PlainJournal D) (result : Result Settled JournalRefused) : Type 0 where
  pub in_after : result ≡ Ok In → Told state old.pair → held new ≡ held_after old
  pub in_not_lost : result ≡ Ok In → old.pair.doubt ≡ Restart → ⊥
  pub out_before : result ≡ Ok Out → held new ≡ held old
  pub rests : OnOk result (new.pair.doubt ≡ Nothing)
  pub stays_open : OnErr result (new.pair.doubt ≡ old.pair.doubt)
  pub stays : OnErr result (held new ≡ held old)
  pub stays_after : OnErr result (held_after new ≡ held_after old)
  pub first_writes_none : WritesNone (state (first_disk old.pair)) (state (first_disk new.pair))
  pub second_writes_none : WritesNone (state (second_disk old.pair)) (state (second_disk new.pair))
  pub any_moment : EachHolds state old new (held old) (held_after old)
  pub images : ImagesHold state new (held new) (held_after new)
  pub asked : new.asked ≡ old.asked
  pub disks : KeepsDisks state old.pair new.pair
  pub cause : IsBlamed state old.pair new.pair result

-- the heads after a settle: that of the snapshot that counts, and that of the one that counts once what is in doubt is In
abbrev pub heads_after : Result Settled JournalRefused → Head → Head → Head × Head
heads_after (Ok In) head next = (next, next)
heads_after (Ok Out) head next = (head, head)
heads_after (Err refused) head next = (head, next)
