-- What a shard has room for. Generations have no limits yet, so every group fits.
use Rattle.std.specs.Prelude.{ℕ, Bool, true, false, List}
use Rattle.first_shard_terms.specs.ShardList.{ShardList, Op}

-- the operations fit the newest generation
abbrev pub fits : ShardList → List Op → Bool
fits list ops = true

-- no generation can take them, and none may be dropped at this moment
abbrev pub is_full : ShardList → List Op → ℕ → Bool
is_full list ops now = false
