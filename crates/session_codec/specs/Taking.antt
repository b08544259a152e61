-- What the calls give that read a part, and those that write one.
use Rattle.std.specs.Prelude.{ℕ, ◌≡◌, ◌≤◌, List, ◌++◌, length, drop, Option, Some, None, Result, Ok, Err}
use Rattle.wire_fields.specs.Spelled.{spelled_u8, spelled_u16, spelled_u32, spelled_u64}
use Rattle.session_state.specs.declared.change.Change.{Change}
use Rattle.session_state.specs.KeptSession.{KeptSession}
use Rattle.session_codec.specs.declared.refused.CodecRefused.{CodecRefused}
use Rattle.session_codec.specs.declared.refused.CodecRefused.TheVariants.{Bad, Memory}
use Rattle.session_codec.specs.declared.numbers.Number.{Number}
use Rattle.session_codec.specs.declared.numbers.Number.TheVariants.{One, Two, Four, Eight}

-- a refusal says that there is no such part, and want of memory says nothing
abbrev pub IsNone : CodecRefused → Type 0 → Type 0
IsNone Bad claim = claim
IsNone Memory claim = Unit {0}

-- what a call gave that reads a part, and moves the place behind it to `new`
abbrev pub TakesPart : {X Y : Type 0} → (X → Y) → Result X CodecRefused → Option (Y × List ℕ) → List ℕ → ℕ → Type 0
TakesPart view (Ok x) read bytes new = read ≡ Some (view x, drop new bytes)
TakesPart view (Err e) read bytes new = IsNone e (read ≡ None)

-- what a call gave on bytes that it reads to their end
abbrev pub GivesPart : {X Y : Type 0} → (X → Y) → Result X CodecRefused → Option Y → Type 0
GivesPart view (Ok x) read = read ≡ Some (view x)
GivesPart view (Err e) read = IsNone e (read ≡ None)

-- some bytes that begin with others
unfoldable pub Begins : List ℕ → List ℕ → Type 0
Begins old new = (more : List ℕ) × (new ≡ old ++ more)

-- what a call did to the bytes that are there: these were put behind them, or, where memory ran out, a part of these
abbrev pub Puts : {E : Type 0} → Result Unit E → List ℕ → List ℕ → List ℕ → Type 0
Puts (Ok done) old new part = new ≡ old ++ part
Puts (Err e) old new part = Begins old new

-- a text whose length can be told
abbrev pub IsShort : List ℕ → Type 0
IsShort text = length text ≤ 65535

abbrev pub HasShortClient : Change → Type 0
HasShortClient c = IsShort c.client

-- a number of one, two, four or eight bytes
abbrev pub spelled_number : Number → List ℕ
spelled_number (One n) = spelled_u8 n
spelled_number (Two n) = spelled_u16 n
spelled_number (Four n) = spelled_u32 n
spelled_number (Eight n) = spelled_u64 n

-- the most that a count of two bytes tells
abbrev pub most_count : ℕ
most_count = 65535

-- each list of a session has a count that can be told, and its client's text a length
pub record HasCounts (m : KeptSession) : Type 0 where
  pub client : IsShort m.client
  pub done : length m.tracks.done ≤ most_count
  pub subs : length m.subs ≤ most_count
  pub versions : length m.versions ≤ most_count
  pub batches : length m.batches ≤ most_count
