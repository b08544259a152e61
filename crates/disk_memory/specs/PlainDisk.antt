-- A disk in memory by plain values: what it holds, what is pending, what it was, and which of its calls are to fail.
use Rattle.std.specs.Prelude.{◌≡◌, ℕ, ◌+◌, ◌-◌, ◌/◌, ◌^◌, ◌<◌, ◌≤◌, ◌==◌, Bool, true, false, min, nat_le, if◌then◌else◌, List, [], ◌∷◌, ◌++◌, length, take, replicate, refl, Contains}
use Rattle.std.specs.BTreeMap.{is_at}
use Rattle.std.specs.BTreeSet.{insert_key}
use Rattle.std.specs.Ordering.{nat_cmp}
use Rattle.std.specs.Set.{remove_key}
use Rattle.outside.specs.Cause.{next_count}
use Rattle.outside.specs.DiskModel.{written_at}

-- A pending write: its place, the intended bytes, and how many of them reads give.
pub record PlainWrite : Type 0 where
  pub at : ℕ
  pub bytes : List ℕ
  pub taken : ℕ

-- The bytes as of the last sync that succeeded, and the writes since.
pub record State : Type 0 where
  pub base : List ℕ
  pub writes : List PlainWrite

-- Its present state; the state before each call that was made, oldest first; how often it failed; how often a failure was
-- asked for; the number of the last call; the numbers of the calls that are to fail, rising; whether memory was refused.
pub record PlainDisk : Type 0 where
  pub state : State
  pub past : List State
  pub faults : ℕ
  pub arms : ℕ
  pub number : ℕ
  pub failing : List ℕ
  pub starved : Bool

-- these bytes at this place, where the place isn't past the end; else nothing is written
abbrev pub laid_at : ℕ → List ℕ → List ℕ → List ℕ
laid_at at bytes old = if nat_le at (length old) then written_at at bytes old else old

-- bytes that follow, 00 up to a size
abbrev pub grown : ℕ → List ℕ → List ℕ
grown size old = old ++ replicate (size - length old) 0

-- what reads give after a write
abbrev pub seen_after : List ℕ → PlainWrite → List ℕ
seen_after old w = laid_at w.at (take w.taken w.bytes) old

abbrev pub seen_of : List ℕ → List PlainWrite → List ℕ
seen_of old [] = old
seen_of old (w ∷ ws) = seen_of (seen_after old w) ws

-- what reads of a disk give
abbrev pub seen_bytes : PlainDisk → List ℕ
seen_bytes d = seen_of d.state.base d.state.writes

-- a state with nothing pending
abbrev pub rested : List ℕ → State
rested base = record { base = base; writes = [] }

-- with one more pending write, and with all of them done
abbrev pub with_pending : PlainWrite → State → State
with_pending w s = record { base = s.base; writes = s.writes ++ w ∷ [] }

abbrev pub settled : State → State
settled s = rested (seen_of s.base s.writes)

-- a disk with nothing on it, of which nothing was asked
abbrev pub empty_disk : PlainDisk
empty_disk = record { state = rested []; past = []; faults = 0; arms = 0; number = 0; failing = []; starved = false }

-- the next call is one that is to fail
abbrev pub IsDue : PlainDisk → Type 0
IsDue d = Contains d.failing (next_count d.number)

-- A call is counted, the state before it is remembered, and a failure that was asked for at it is no longer to come.
abbrev pub called : PlainDisk → PlainDisk
called d = record {
  state = d.state;
  past = d.past ++ d.state ∷ [];
  faults = d.faults;
  arms = d.arms;
  number = next_count d.number;
  failing = remove_key (is_at (nat_cmp (next_count d.number))) d.failing;
  starved = d.starved;
}

-- the number of the call that is so many calls away
abbrev pub call_after : ℕ → ℕ → ℕ
call_after number n = min (number + n) (2 ^ 64 - 1)

-- a disk that was told to fail at the call of this number from now on; at 0 at none
abbrev pub armed : ℕ → PlainDisk → PlainDisk
armed n d = record {
  state = d.state;
  past = d.past;
  faults = d.faults;
  arms = next_count d.arms;
  number = d.number;
  failing = if n == 0 then d.failing else insert_key nat_cmp d.failing (call_after d.number n);
  starved = d.starved;
}

-- after a failure
abbrev pub failed : PlainDisk → PlainDisk
failed d = record {
  state = d.state;
  past = d.past;
  faults = next_count d.faults;
  arms = d.arms;
  number = d.number;
  failing = d.failing;
  starved = d.starved;
}

-- memory was refused
abbrev pub starving : PlainDisk → PlainDisk
starving d = record {
  state = d.state;
  past = d.past;
  faults = d.faults;
  arms = d.arms;
  number = d.number;
  failing = d.failing;
  starved = true;
}

-- in another state
abbrev pub moved : State → PlainDisk → PlainDisk
moved state d = record {
  state = state;
  past = d.past;
  faults = d.faults;
  arms = d.arms;
  number = d.number;
  failing = d.failing;
  starved = d.starved;
}

-- after a write of which reads give so many bytes, and after a sync
abbrev pub wrote : ℕ → List ℕ → ℕ → PlainDisk → PlainDisk
wrote at bytes taken d = moved (with_pending (record { at = at; bytes = bytes; taken = taken }) d.state) d

abbrev pub synced : PlainDisk → PlainDisk
synced d = moved (settled d.state) d

-- a write ended with the first half of its bytes, as its call was to fail
abbrev pub IsHalf : ℕ → List ℕ → PlainDisk → PlainDisk → Type 0
IsHalf at bytes old new = IsDue old × (new ≡ failed (wrote at bytes (length bytes / 2) (called old)))

-- a write ended with nothing written, as memory was refused
abbrev pub IsRefused : PlainDisk → PlainDisk → Type 0
IsRefused old new = new ≡ starving (failed (called old))

-- Each fault, and each failure that is still to come, was asked for: unless memory was refused, or more was asked for
-- than the count of it can tell.
abbrev pub AreNamed : Bool → ℕ → ℕ → List ℕ → Type 0
AreNamed starved arms faults failing = starved ≡ false → arms < 2 ^ 64 - 1 → faults + length failing ≤ arms

abbrev pub IsNamed : PlainDisk → Type 0
IsNamed d = AreNamed d.starved d.arms d.faults d.failing

-- examples: a failure that was asked for twice at one call is to come once, and is gone when it came
armed_twice : (armed 2 (armed 1 (armed 2 empty_disk))).failing ≡ 1 ∷ 2 ∷ []
armed_twice = refl

gone_when_it_came : (called (armed 2 (armed 1 empty_disk))).failing ≡ 2 ∷ []
gone_when_it_came = refl

armed_at_none : (armed 0 (called empty_disk)).failing ≡ []
armed_at_none = refl
