-- Bytes that are whole records with open gates.
use Rattle.std.specs.Prelude.{ℕ, ◌≡◌, ◌<◌, ◌==◌, false, List, [], ◌∷◌, ◌++◌, length}
use Rattle.std.specs.Int.{w32, from_be_bytes}

-- the first record of these bytes, and what follows it
pub record OpensWith (payload bytes later : List ℕ) : Type 0 where
  pub gate : ℕ
  pub head : List ℕ
  pub is_open : (gate == 0) ≡ false
  pub four : length head ≡ 4
  pub tells : from_be_bytes w32 head ≡ length payload
  pub some : 0 < length payload
  pub spelled : bytes ≡ gate ∷ (head ++ (payload ++ later))

-- all of them are these records
abbrev pub AreOpen : List (List ℕ) → List ℕ → Type 0
AreOpen [] bytes = bytes ≡ []
AreOpen (payload ∷ payloads) bytes = (later : List ℕ) × OpensWith payload bytes later × AreOpen payloads later
