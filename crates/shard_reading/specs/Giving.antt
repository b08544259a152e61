-- What a call gives that reads a shard, and which disk is to blame.
use Rattle.std.specs.Prelude.{ℕ, ◌≡◌, List, Result, Ok, Err}
use Rattle.gated_log.specs.declared.refused.LogRefused.{LogRefused}
use Rattle.gated_log.specs.declared.refused.LogRefused.TheVariants.{Full, Fault as Failed, Memory as NoMemory}
use Rattle.shard_disks.specs.Blame.{IsBlamedAt}
use Rattle.shard_fold.specs.Fold.{Folded, Holds, IsDamaged, HasAnother}
use Rattle.shard_fold.specs.declared.unread.Unread as fold
use Rattle.shard_fold.specs.declared.unread.Unread.TheVariants as told
use Rattle.shard_reading.specs.declared.unread.Unread.{Unread}
use Rattle.shard_reading.specs.declared.unread.Unread.TheVariants.{Damaged, Another, Fault, Memory}

-- why nothing was read: the refusal is what the records hold; a fault and want of memory say nothing of them
abbrev pub IsWhy : {A : Type 0} → Unread → Folded A → Type 0
IsWhy (Damaged log place) held = held ≡ IsDamaged log place
IsWhy (Another what kept asked) held = held ≡ HasAnother what kept asked
IsWhy (Fault disk) held = Unit {0}
IsWhy Memory held = Unit {0}

-- what a call gave that reads what is held
abbrev pub Gives : {X A : Type 0} → (X → A) → Result X Unread → Folded A → Type 0
Gives view (Ok x) held = held ≡ Holds (view x)
Gives view (Err why) held = IsWhy why held

-- of the counts of faults of all disks, before and after: a fault comes only where that of its disk rose, and beside every other answer all are what
-- they were
abbrev pub IsCause : Unread → List ℕ → List ℕ → Type 0
IsCause (Damaged log place) before now = now ≡ before
IsCause (Another what kept asked) before now = now ≡ before
IsCause (Fault disk) before now = IsBlamedAt disk Failed before now
IsCause Memory before now = now ≡ before

abbrev pub IsReadBlamed : {X : Type 0} → List ℕ → List ℕ → Result X Unread → Type 0
IsReadBlamed before now (Ok x) = now ≡ before
IsReadBlamed before now (Err why) = IsCause why before now

-- why a record was not read, by why the log on the disk at a place did not read it; nothing is full where nothing is written
abbrev pub unread_of : ℕ → LogRefused → Unread
unread_of place Full = Memory
unread_of place Failed = Fault place
unread_of place NoMemory = Memory

-- the same refusal, of records that were read
abbrev pub refusal_of : fold.Unread → Unread
refusal_of (told.Damaged log place) = Damaged log place
refusal_of (told.Another what kept asked) = Another what kept asked
refusal_of told.Memory = Memory
