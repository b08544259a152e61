-- The gate at an end while it is being closed.
use Rattle.std.specs.Prelude.{ℕ, ◌≡◌, ◌⊎◌, ◌+◌, ◌==◌, Bool, if◌then◌else◌, List, [], ◌∷◌, ◌++◌, take, drop, slice_index_or}
use Rattle.gated_log.specs.Records.{records}

-- these bytes with another one at this place
abbrev pub with_gate : ℕ → ℕ → List ℕ → List ℕ
with_gate place gate old = take place old ++ gate ∷ drop (place + 1) old

abbrev pub WithGate : ℕ → ℕ → List ℕ → List ℕ → Type 0
WithGate place gate old new = new ≡ with_gate place gate old

-- the same bytes, or any gate among them
abbrev pub IsGateTorn : ℕ → List ℕ → List ℕ → Type 0
IsGateTorn place old image = (image ≡ old) ⊎ ((gate : ℕ) × WithGate place gate old image)

-- a gate that is 00 stays
abbrev pub IsClosing : ℕ → List ℕ → List ℕ → Type 0
IsClosing place old image = (image ≡ old) ⊎ ((take 1 (drop place old) ≡ 0 ∷ [] → ⊥) × IsGateTorn place old image)

-- the list of what a crash might have left at the start, or none
abbrev pub HasOldList : (List ℕ → Type 0) → List ℕ → Type 0
HasOldList images image = (records image ≡ []) ⊎ ((old : List ℕ) × images old × (records image ≡ records old))

-- whether 00 is there
abbrev pub is_closed_at : ℕ → List ℕ → Bool
is_closed_at place bytes = slice_index_or (drop place bytes) 0 1 == 0

-- the calls that see to that: the gate is read, and where it isn't 00, that is written and synced
abbrev pub closing_calls : ℕ → List ℕ → ℕ
closing_calls place bytes = if is_closed_at place bytes then 1 else 3
