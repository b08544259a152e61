-- A subscription as a session keeps it.
use Rattle.std.specs.Prelude.{ℕ, Bool, List}
use Rattle.shard_model.specs.declared.sweep.Sweep.{Sweep}

-- Its number, whether it is live, its present version, the levels of its filter, and how far it is in each shard. One that was ended has no
-- sweeps.
pub record KeptSub : Type 0 where
  pub number : ℕ
  pub live : Bool
  pub version : ℕ
  pub filter : List (List ℕ)
  pub sweeps : List Sweep
