-- Pieces that follow others.
use Rattle.std.proofs.Common.{ℕ, List, ◌++◌, Option, Some, None}

-- pieces behind others, none where there are none
abbrev pub behind : List (List ℕ) → Option (List (List ℕ)) → Option (List (List ℕ))
behind front None = None
behind front (Some pieces) = Some (front ++ pieces)
