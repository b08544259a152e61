-- Where a log ends on its disk: whole records, then a closed gate.
use Rattle.std.specs.Prelude.{ℕ, ◌≡◌, ◌⊎◌, List, [], ◌∷◌, ◌++◌, length, refl}
use Rattle.std.proofs.Common.{arith}
use Rattle.outside.specs.DiskModel.{Only}
use Rattle.gated_log.specs.Opens.{AreOpen}
use Rattle.gated_log.specs.Records.{records, body_bytes}

-- these records up to a place, where a closed gate stands
pub record Stands (payloads : List (List ℕ)) (place : ℕ) (bytes : List ℕ) : Type 0 where
  pub front : List ℕ
  pub junk : List ℕ
  pub are_open : AreOpen payloads front
  pub ends : length front ≡ place
  pub spelled : bytes ≡ front ++ 0 ∷ junk

-- the same with a gate that may be open, and behind it the bytes of one more record
pub record StandsWith (payloads : List (List ℕ)) (payload : List ℕ) (place gate : ℕ) (bytes : List ℕ) : Type 0 where
  pub front : List ℕ
  pub junk : List ℕ
  pub are_open : AreOpen payloads front
  pub ends : length front ≡ place
  pub spelled : bytes ≡ front ++ gate ∷ (body_bytes payload ++ junk)

-- the list before a commit or the list after it
abbrev pub IsBeforeOrAfter : List (List ℕ) → List ℕ → List ℕ → Type 0
IsBeforeOrAfter payloads payload image = (records image ≡ payloads) ⊎ (records image ≡ payloads ++ payload ∷ [])

-- at rest: the list stands, and every image is what reads give
abbrev pub IsStanding : ℕ → List ℕ → (List ℕ → Type 0) → Type 0
IsStanding place bytes images = Stands (records bytes) place bytes × Only bytes images

-- the body stands behind this gate, in every image: behind 0 before a commit's second half, behind 1 after it
abbrev pub IsWritten : List (List ℕ) → List ℕ → ℕ → ℕ → List ℕ → (List ℕ → Type 0) → Type 0
IsWritten payloads payload place gate bytes images = StandsWith payloads payload place gate bytes × Only bytes images

-- Bytes inside a commit: the gate is closed with anything behind it, or the body stands behind any gate.
abbrev pub IsInCommit : List (List ℕ) → List ℕ → ℕ → List ℕ → Type 0
IsInCommit payloads payload place bytes = Stands payloads place bytes ⊎ ((gate : ℕ) × StandsWith payloads payload place gate bytes)

-- in doubt: what reads give is so, and every image
pub record IsInDoubt (payloads : List (List ℕ)) (payload : List ℕ) (place : ℕ) (bytes : List ℕ) (images : List ℕ → Type 0) : Type 0 where
  pub reads : IsInCommit payloads payload place bytes
  pub each : (image : List ℕ) → images image → IsInCommit payloads payload place image

-- examples: an empty log stands at its closed gate, and one with a record behind it
empty_stands : Stands [] 0 (0 ∷ [])
empty_stands = record { front = []; junk = []; are_open = refl; ends = refl; spelled = refl }

one_stands : Stands ((88 ∷ []) ∷ []) 6 (1 ∷ 0 ∷ 0 ∷ 0 ∷ 1 ∷ 88 ∷ 0 ∷ [])
one_stands = record {
  front = 1 ∷ 0 ∷ 0 ∷ 0 ∷ 1 ∷ 88 ∷ [];
  junk = [];
  are_open = ([], record { gate = 1; head = 0 ∷ 0 ∷ 0 ∷ 1 ∷ []; is_open = refl; four = refl; tells = refl; some = omega arith; spelled = refl }, refl);
  ends = refl;
  spelled = refl;
}
