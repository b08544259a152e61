-- How a script is read: how many bytes each take of its source gave since.
use Rattle.std.specs.Prelude.{ℕ, ◌+◌, ◌<◌, ◌≤◌, ◌≡◌, ◌⊎◌, Bool, true, false, nat_lt, List, [], ◌∷◌, ◌++◌, length, sum, All, Option, Some, None}
use Rattle.broker_main.specs.Outcome.{script_limit}
use Rattle.broker_main.specs.declared.reading.ReadStopped.{ReadStopped}
use Rattle.broker_main.specs.declared.reading.ReadStopped.TheVariants as reading

-- each take since gave bytes, together no more than a script may have
pub record GivesSome (before now : List ℕ) : Type 0 where
  pub counts : List ℕ
  pub some : All (λ n. 0 < n) counts
  pub within : sum counts ≤ script_limit
  pub gave : now ≡ before ++ counts

-- each take but the last was such a one, and the last gave nothing: none comes behind the end
pub record EndsAtOnce (before now : List ℕ) : Type 0 where
  pub counts : List ℕ
  pub some : All (λ n. 0 < n) counts
  pub within : sum counts ≤ script_limit
  pub gave : now ≡ before ++ counts ++ 0 ∷ []

-- each take but the last was such a one, and the last passed the limit: none comes behind it
pub record StopsPast (before now : List ℕ) : Type 0 where
  pub counts : List ℕ
  pub last : ℕ
  pub some : All (λ n. 0 < n) counts
  pub within : sum counts ≤ script_limit
  pub past : script_limit < sum counts + last
  pub gave : now ≡ before ++ counts ++ last ∷ []

-- which takes were made where a source wasn't read to its end
abbrev pub StopsOnce : ReadStopped → List ℕ → List ℕ → Type 0
StopsOnce reading.TooLong before now = StopsPast before now
StopsOnce reading.Source before now = GivesSome before now
StopsOnce reading.Memory before now = GivesSome before now

-- which takes were made for a script that is too long or isn't
abbrev pub TakesOnce : Bool → List ℕ → List ℕ → Type 0
TakesOnce true before now = StopsPast before now
TakesOnce false before now = EndsAtOnce before now

-- the same by what the source had left, where it can tell
abbrev pub ReadsOnce : Option (List ℕ) → List ℕ → List ℕ → Type 0
ReadsOnce None before now = EndsAtOnce before now ⊎ StopsPast before now
ReadsOnce (Some script) before now = TakesOnce (nat_lt script_limit (length script)) before now
