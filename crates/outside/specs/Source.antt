-- What a take does to the bytes that a source has left, where it can tell them.
use Rattle.std.specs.Prelude.{◌≡◌, ℕ, ◌≤◌, List, length, take, drop, ⊤, Option, None, Some}

-- the first n bytes of what was left stand at the front of `into`, and the others are still left
pub record LosesFront (left : List ℕ) (now : Option (List ℕ)) (n : ℕ) (into : List ℕ) : Type 0 where
  pub within : n ≤ length left
  pub bytes : take n into ≡ take n left
  pub rest : now ≡ Some (drop n left)

-- a take gave n bytes, the front of what was left where that was told
abbrev pub TakesFront : Option (List ℕ) → Option (List ℕ) → ℕ → List ℕ → Type 0
TakesFront None now n into = ⊤
TakesFront (Some left) now n into = LosesFront left now n into
