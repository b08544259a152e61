-- What the calls give that read a journal, or a part of it.
use Rattle.std.specs.Prelude.{ℕ, ◌≡◌, ◌≤◌, Result, Ok, Err}
use Rattle.outside.specs.Cause.{Rose}
use Rattle.gated_log.specs.declared.refused.LogRefused.{LogRefused}
use Rattle.gated_log.specs.declared.refused.LogRefused.TheVariants.{Full, Fault as Failed, Memory as NoMemory}
use Rattle.session_state.specs.KeptSession.{KeptSessions}
use Rattle.session_journal.specs.declared.unread.Unread.{Unread}
use Rattle.session_journal.specs.declared.unread.Unread.TheVariants.{Damaged, Another, Fault, Memory}
use Rattle.session_journal.specs.Fold.{Folded, Holds, IsDamaged, HasAnother}

-- why nothing was read: the refusal is what the records hold; a fault and want of memory say nothing of them
abbrev pub IsWhy : Unread → Folded → Type 0
IsWhy (Damaged at) held = held ≡ IsDamaged at
IsWhy (Another what kept asked) held = held ≡ HasAnother what kept asked
IsWhy Fault held = Unit {0}
IsWhy Memory held = Unit {0}

-- what a call gave that reads what is held
abbrev pub Gives : {X : Type 0} → (X → KeptSessions) → Result X Unread → Folded → Type 0
Gives view (Ok x) held = held ≡ Holds (view x)
Gives view (Err why) held = IsWhy why held

-- Of the counts of faults before and after: a fault comes only where it rose, and beside every other answer it is what it was.
abbrev pub IsCause : Unread → ℕ → ℕ → Type 0
IsCause (Damaged at) before now = now ≡ before
IsCause (Another what kept asked) before now = now ≡ before
IsCause Fault before now = (before ≤ now) × Rose before now
IsCause Memory before now = now ≡ before

abbrev pub IsReadBlamed : {X : Type 0} → ℕ → ℕ → Result X Unread → Type 0
IsReadBlamed before now (Ok x) = now ≡ before
IsReadBlamed before now (Err why) = IsCause why before now

-- why a record was not read, by why its log did not read it; nothing is full where nothing is written
abbrev pub unread_of : LogRefused → Unread
unread_of Full = Memory
unread_of Failed = Fault
unread_of NoMemory = Memory

-- a reason that tells nothing of what is held: a disk failed, or there is no memory
abbrev pub IsOutside : Unread → Type 0
IsOutside (Damaged at) = ⊥
IsOutside (Another what kept asked) = ⊥
IsOutside Fault = Unit {0}
IsOutside Memory = Unit {0}

-- a reason that is no fault of a disk
abbrev pub IsInside : Unread → Type 0
IsInside (Damaged at) = Unit {0}
IsInside (Another what kept asked) = Unit {0}
IsInside Fault = ⊥
IsInside Memory = Unit {0}
