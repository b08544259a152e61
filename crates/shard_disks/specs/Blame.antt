-- Which disk's count of faults tells why a call failed.
use Rattle.std.specs.Prelude.{ℕ, zero, suc, ◌≡◌, ◌⊎◌, ◌≤◌, List, [], ◌∷◌, Result, IsErrOf, refl}
use Rattle.std.proofs.Common.{arith, inl, inr}
use Rattle.outside.specs.Cause.{Rose}
use Rattle.gated_log.specs.Blame.{IsBlamedFor}
use Rattle.gated_log.specs.declared.refused.LogRefused.{LogRefused}
use Rattle.gated_log.specs.declared.refused.LogRefused.TheVariants.{Fault}
use Rattle.shard_disks.specs.Lists.{Pairwise}

-- of the counts of several disks, before and now, at least one rose
abbrev pub SomeRose : List ℕ → List ℕ → Type 0
SomeRose [] now = ⊥
SomeRose (b ∷ before) [] = ⊥
SomeRose (b ∷ before) (n ∷ now) = Rose b n ⊎ SomeRose before now

-- The counts of faults never fall: a fault comes only where one rose, and beside every other answer all are what they were.
pub record IsBlamed {T : Type 0} (before now : List ℕ) (result : Result T LogRefused) : Type 0 where
  pub later : Pairwise (λ b n. b ≤ n) before now
  pub fault : IsErrOf result Fault → SomeRose before now
  pub kept : (IsErrOf result Fault → ⊥) → now ≡ before

-- the count at one place tells why a disk was refused, and all others are what they were
abbrev pub IsBlamedAt : ℕ → LogRefused → List ℕ → List ℕ → Type 0
IsBlamedAt place why [] now = ⊥
IsBlamedAt place why (b ∷ before) [] = ⊥
IsBlamedAt zero why (b ∷ before) (n ∷ now) = IsBlamedFor b n why × (now ≡ before)
IsBlamedAt (suc place) why (b ∷ before) (n ∷ now) = (n ≡ b) × IsBlamedAt place why before now

-- examples: the count of the second of three rose; beside another answer none may rise
second_rose : SomeRose (4 ∷ 5 ∷ 6 ∷ []) (4 ∷ 6 ∷ 6 ∷ [])
second_rose = inr (inl (inl (omega arith)))

none_rose : SomeRose (4 ∷ 5 ∷ []) (4 ∷ 5 ∷ []) → ⊥
none_rose (inl (inl rose)) = omega (arith, rose)
none_rose (inl (inr end)) = omega (arith, end)
none_rose (inr (inl (inl rose))) = omega (arith, rose)
none_rose (inr (inl (inr end))) = omega (arith, end)
none_rose (inr (inr none)) = none

second_blamed : IsBlamedAt 1 Fault (4 ∷ 5 ∷ 6 ∷ []) (4 ∷ 6 ∷ 6 ∷ [])
second_blamed = (refl, (record { later = omega arith; fault = λ is. inl (omega arith); kept = λ other. absurd (other refl) }, refl))

another_rose : IsBlamedAt 1 Fault (4 ∷ 5 ∷ 6 ∷ []) (5 ∷ 6 ∷ 6 ∷ []) → ⊥
another_rose blamed = let e : 5 ≡ 4 = blamed.0 in cc
