-- Which shard and which worker a client identifier belongs to.
use Rattle.std.specs.Prelude.{ℕ, ◌+◌, ◌*◌, ◌-◌, ◌%◌, Bool, true, false, ◌&&◌, ◌||◌, not, ◌==◌, nat_lt, if◌then◌else◌}
use Rattle.std.specs.Prelude.{List, [], ◌++◌, length, take, drop, slice_index, codes, Option, Some, None}
use Rattle.std.specs.List.{list_all}
use Rattle.std.specs.Int.{w64, from_be_bytes}
use Rattle.std.specs.Char.{is_ascii_digit}
use Rattle.std.specs.Str.{bytes_eq}
use Rattle.std.specs.Fmt.{decimal}
use Rattle.topic_model.specs.Decimals.{is_decimal}
use Rattle.sha2.specs.Sha256.{sha256}

-- bytes 0 to 7 of the SHA-256 of the identifier, the highest first, modulo the number of shards
abbrev pub hashed_shard : List ℕ → ℕ → ℕ
hashed_shard client shards = from_be_bytes w64 (take 8 (sha256 client)) % shards

-- bytes 8 to 15, modulo the number of workers
abbrev pub hashed_worker : List ℕ → ℕ → ℕ
hashed_worker client workers = from_be_bytes w64 (take 8 (drop 8 (sha256 client))) % workers

-- the same, computed without the hash where there is one shard, or one worker
abbrev pub shard_of : List ℕ → ℕ → ℕ
shard_of client shards = elim (shards == 1) as (λ one. ℕ) [ true ↦ 0 | false ↦ hashed_shard client shards ]

abbrev pub worker_of : List ℕ → ℕ → ℕ
worker_of client workers = elim (workers == 1) as (λ one. ℕ) [ true ↦ 0 | false ↦ hashed_worker client workers ]

-- ---- identifiers that a worker assigned: `auto-DD-N`

abbrev pub two_digits : ℕ → List ℕ
two_digits n = (if nat_lt n 10 then codes "0" else []) ++ decimal n

-- the identifier that a worker assigns (MQTT 3.1.3.1): its own number in two digits, and a number
abbrev pub assigned_identifier : ℕ → ℕ → List ℕ
assigned_identifier worker number = codes "auto-" ++ (two_digits worker ++ (codes "-" ++ decimal number))

abbrev pub value_of_two : List ℕ → ℕ
value_of_two text = 10 * (slice_index text 5 - 0x30) + (slice_index text 6 - 0x30)

abbrev pub has_assigned_form : List ℕ → Bool
has_assigned_form client =
    bytes_eq (take 5 client) (codes "auto-")
    && ((length (take 2 (drop 5 client)) == 2) && list_all is_ascii_digit (take 2 (drop 5 client)))
    && (bytes_eq (take 1 (drop 7 client)) (codes "-") && is_decimal (drop 8 client))

-- the worker of an identifier of that form, if there are so many workers
abbrev pub assigned_worker : List ℕ → ℕ → Option ℕ
assigned_worker client workers =
    if has_assigned_form client && nat_lt (value_of_two client) workers then Some (value_of_two client) else None

abbrev pub or_hashed : Option ℕ → ℕ → ℕ
or_hashed (Some worker) hashed = worker
or_hashed None hashed = hashed

-- where the connection of a client goes
abbrev pub routed_worker : List ℕ → ℕ → ℕ
routed_worker client workers = or_hashed (assigned_worker client workers) (worker_of client workers)
