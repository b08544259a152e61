-- The records that the bytes of a log hold: the payloads behind open gates, up to the first closed one.
use Rattle.std.specs.Prelude.{ℕ, zero, suc, ◌-◌, ◌≡◌, ◌&&◌, ◌||◌, ◌==◌, nat_lt, if◌then◌else◌, List, [], ◌∷◌, ◌++◌, length, take, drop, Option, Some, None, refl}
use Rattle.std.specs.Int.{w32, from_be_bytes, to_be_bytes}

-- the payload behind an open gate, and what follows it
pub record Front : Type 0 where
  pub payload : List ℕ
  pub rest : List ℕ

-- a length is 1 or more, and the next gate stands behind its payload
abbrev pub front_of_length : ℕ → List ℕ → Option Front
front_of_length count bytes =
    if nat_lt 0 count && nat_lt count (length bytes) then Some (record { payload = take count bytes; rest = drop count bytes }) else None

-- the first record, none where the gate at the front is closed: it is missing or 00, or the length doesn't fit
abbrev pub front_behind : ℕ → List ℕ → Option Front
front_behind gate bytes =
    if (gate == 0) || nat_lt (length bytes) 4 then None else front_of_length (from_be_bytes w32 (take 4 bytes)) (drop 4 bytes)

abbrev pub front_record : List ℕ → Option Front
front_record [] = None
front_record (gate ∷ bytes) = front_behind gate bytes

abbrev pub rest_of : Option Front → List ℕ
rest_of None = []
rest_of (Some front) = front.rest

abbrev pub and_front : Option Front → List (List ℕ) → List (List ℕ)
and_front None later = []
and_front (Some front) later = front.payload ∷ later

-- at most so many records
abbrev pub records_within : ℕ → List ℕ → List (List ℕ)
records_within zero bytes = []
records_within (suc more) bytes = and_front (front_record bytes) (records_within more (rest_of (front_record bytes)))

abbrev pub records : List ℕ → List (List ℕ)
records bytes = records_within (length bytes) bytes

-- the bytes of a record behind its gate, and the closed gate behind it
abbrev pub body_bytes : List ℕ → List ℕ
body_bytes payload = to_be_bytes w32 (length payload) ++ (payload ++ 0 ∷ [])

-- the payload of such bytes
abbrev pub payload_of : List ℕ → List ℕ
payload_of bytes = take (length bytes - 5) (drop 4 bytes)

abbrev pub spelled : List (List ℕ) → List ℕ
spelled [] = []
spelled (payload ∷ payloads) = 1 ∷ to_be_bytes w32 (length payload) ++ payload ++ spelled payloads

-- examples: a log that was mounted on an empty disk, and one with the record 58
empty_log : records (0 ∷ []) ≡ []
empty_log = refl

one_record : records (1 ∷ 0 ∷ 0 ∷ 0 ∷ 1 ∷ 88 ∷ 0 ∷ []) ≡ (88 ∷ []) ∷ []
one_record = refl

-- a gate that isn't there, a length of 0, a length that doesn't fit, and a gate torn to another byte
no_gate_behind : records (1 ∷ 0 ∷ 0 ∷ 0 ∷ 1 ∷ 88 ∷ []) ≡ []
no_gate_behind = refl

length_zero : records (1 ∷ 0 ∷ 0 ∷ 0 ∷ 0 ∷ 0 ∷ []) ≡ []
length_zero = refl

too_long : records (1 ∷ 0 ∷ 0 ∷ 0 ∷ 9 ∷ 88 ∷ 0 ∷ []) ≡ []
too_long = refl

torn_gate : records (165 ∷ 0 ∷ 0 ∷ 0 ∷ 1 ∷ 88 ∷ 1 ∷ 0 ∷ 0 ∷ []) ≡ (88 ∷ []) ∷ []
torn_gate = refl

two_records : records (spelled ((7 ∷ []) ∷ (8 ∷ 9 ∷ []) ∷ []) ++ 0 ∷ []) ≡ (7 ∷ []) ∷ (8 ∷ 9 ∷ []) ∷ []
two_records = refl
