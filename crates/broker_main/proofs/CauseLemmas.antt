-- A count of faults that rose later.
use Rattle.std.proofs.Common.{ℕ, ◌≤◌, inl, inr, arith}
use Rattle.outside.specs.Cause.{Rose}

-- it rose from what it was before, too
pub rose_before : (before mid now : ℕ) → before ≤ mid → mid ≤ now → Rose mid now → Rose before now
rose_before before mid now h k (inl p) = inl (omega arith)
rose_before before mid now h k (inr e) = grind arith
