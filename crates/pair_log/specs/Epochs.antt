-- Which of two disks counts, by the epochs of their records 0.
use Rattle.std.specs.Prelude.{ℕ, ◌+◌, ◌%◌, ◌^◌, ◌≡◌, ◌==◌, ◌&&◌, ◌||◌, nat_lt, not, Bool, true, false, if◌then◌else◌, List, [], ◌∷◌, ◌++◌, length, take, drop, refl}
use Rattle.std.specs.Int.{w64, from_be_bytes, to_be_bytes}
use Rattle.gated_log.specs.Records.{records}

-- a record 0 is an epoch and a snapshot; a shorter one has epoch 0 and an empty snapshot
abbrev pub epoch_of : List ℕ → ℕ
epoch_of payload = if nat_lt (length payload) 8 then 0 else from_be_bytes w64 (take 8 payload)

abbrev pub snapshot_of : List ℕ → List ℕ
snapshot_of payload = drop 8 payload

-- modulo 2^64
abbrev pub next_epoch : ℕ → ℕ
next_epoch epoch = (epoch + 1) % 2 ^ 64

-- the second is later than the first: it is the next one, or else the greater one
abbrev pub is_later : ℕ → ℕ → Bool
is_later first second = (second == next_epoch first) || (not (first == next_epoch second) && nat_lt first second)

-- whether the second disk counts, by the records of both
abbrev pub second_counts : List (List ℕ) → List (List ℕ) → Bool
second_counts first [] = false
second_counts [] (snapshot ∷ records) = true
second_counts (old ∷ first) (new ∷ second) = is_later (epoch_of old) (epoch_of new)

-- the records of the disk that counts
abbrev pub active_records : List (List ℕ) → List (List ℕ) → List (List ℕ)
active_records first second = if second_counts first second then second else first

-- what a mount reads from two images
abbrev pub read_pair : List ℕ → List ℕ → List (List ℕ)
read_pair first second = active_records (records first) (records second)

-- examples: the next epoch, also behind the last one; a greater one; equal ones; and a record that is too short
next_counts : second_counts (to_be_bytes w64 1 ∷ []) (to_be_bytes w64 2 ∷ []) ≡ true
next_counts = refl

first_behind_last : second_counts (to_be_bytes w64 18446744073709551615 ∷ []) (to_be_bytes w64 0 ∷ []) ≡ true
first_behind_last = refl

last_before_first : second_counts (to_be_bytes w64 0 ∷ []) (to_be_bytes w64 18446744073709551615 ∷ []) ≡ false
last_before_first = refl

greater_counts : second_counts (to_be_bytes w64 5 ∷ []) (to_be_bytes w64 9 ∷ []) ≡ true
greater_counts = refl

equal_epochs : second_counts (to_be_bytes w64 7 ∷ []) (to_be_bytes w64 7 ∷ []) ≡ false
equal_epochs = refl

short_record : epoch_of (1 ∷ 2 ∷ 3 ∷ []) ≡ 0
short_record = refl

only_second : active_records [] ((to_be_bytes w64 1 ++ 88 ∷ []) ∷ []) ≡ (to_be_bytes w64 1 ++ 88 ∷ []) ∷ []
only_second = refl
