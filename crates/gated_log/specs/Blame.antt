-- Which answers of a log have which cause.
use Rattle.std.specs.Prelude.{ℕ, ◌≡◌, ◌≤◌, Result, IsErrOf}
use Rattle.outside.specs.Cause.{Rose}
use Rattle.gated_log.specs.declared.refused.LogRefused.{LogRefused}
use Rattle.gated_log.specs.declared.refused.LogRefused.TheVariants.{Fault}

-- The count of faults never falls: a fault comes only where it rose, and beside every other answer it is what it was.
pub record IsBlamed {T : Type 0} (before now : ℕ) (result : Result T LogRefused) : Type 0 where
  pub later : before ≤ now
  pub fault : IsErrOf result Fault → Rose before now
  pub kept : (IsErrOf result Fault → ⊥) → now ≡ before

-- the same of the reason for which something was refused
pub record IsBlamedFor (before now : ℕ) (why : LogRefused) : Type 0 where
  pub later : before ≤ now
  pub fault : why ≡ Fault → Rose before now
  pub kept : (why ≡ Fault → ⊥) → now ≡ before
