-- What holds of a chain of calls of a pair at each moment.
use Rattle.std.specs.Prelude.{ℕ, ◌≡◌, ◌⊎◌, IsTrue, List, [], ◌∷◌, ◌++◌}
use Rattle.std.specs.Int.{w64, to_be_bytes}
use Rattle.outside.specs.Along.{Keeps, WithinBoth}
use Rattle.outside.specs.DiskModel.{DiskState}
use Rattle.pair_log.specs.Epochs.{read_pair}
use Rattle.pair_log.specs.Mounted.{or_first}
use Rattle.pair_log.specs.PlainPair.{PlainPair, both_disks}

-- one of these lists
abbrev pub IsOneOf : List (List (List ℕ)) → List (List ℕ) → Type 0
IsOneOf [] list = ⊥
IsOneOf (first ∷ lists) list = (list ≡ first) ⊎ IsOneOf lists list

-- a snapshot with its epoch in front
abbrev pub with_epoch : ℕ → List ℕ → List ℕ
with_epoch epoch snapshot = to_be_bytes w64 epoch ++ snapshot

-- The lists before and after a mount, a commit, a rewrite, a commit and a rewrite, one after another.
abbrev pub chain_lists : List (List ℕ) → List ℕ → List ℕ → ℕ → ℕ → List (List (List ℕ))
chain_lists before snapshot entry one two =
    before ∷ or_first snapshot before ∷ (or_first snapshot before ++ entry ∷ [])
    ∷ (with_epoch one snapshot ∷ []) ∷ (with_epoch one snapshot ∷ entry ∷ []) ∷ (with_epoch two snapshot ∷ []) ∷ []

-- At each moment since the disks were handed over, what a mount would read from an image of each is one of these lists.
abbrev pub ChainKeeps : {D : Type 0} → (D → DiskState) → D → D → List ℕ → List ℕ → PlainPair D → Type 0
ChainKeeps state first second snapshot entry pair = IsTrue (state first).tells → IsTrue (state second).tells
    → (one two : ℕ) × Keeps (WithinBoth state)
    (λ images. IsOneOf (chain_lists (read_pair (state first).seen (state second).seen) snapshot entry one two) (read_pair images.0 images.1))
    [] (first, second) pair.past (both_disks pair)
