-- How many identifiers are awaited behind operations, by numbers alone: of those that an operation asks for, and of all.
use Rattle.std.specs.Prelude.{ℕ, ◌+◌, ◌-◌, Bool, false, ◌&&◌, ◌==◌, not, nat_lt, if◌then◌else◌, List, [], ◌∷◌, filter, length, Option, Some, None}
use Rattle.std.specs.Str.{bytes_eq}
use Rattle.shard_model.specs.ShardList.{Awaited}
use Rattle.shard_model.specs.Storing.{Op, Store, Release, Forget, becomes_awaited, is_awaited_as, is_of}

-- an identifier is of the session of an operation, and where the operation names one, it is that
abbrev pub asks_for : Op → Awaited → Bool
asks_for (Store m) a = is_awaited_as m.publisher m.incarnation m.id a
asks_for (Release publisher incarnation id) a = is_awaited_as publisher incarnation id a
asks_for (Forget publisher incarnation) a = is_of publisher incarnation a

-- an operation is of this session
abbrev pub is_session : List ℕ → ℕ → List ℕ → ℕ → Bool
is_session publisher incarnation other number = bytes_eq publisher other && (incarnation == number)

abbrev pub asks_of : Op → List ℕ → ℕ → Bool
asks_of (Store m) publisher incarnation = is_session m.publisher m.incarnation publisher incarnation
asks_of (Release other number id) publisher incarnation = is_session other number publisher incarnation
asks_of (Forget other number) publisher incarnation = is_session other number publisher incarnation

-- how many there are that an operation asks for
abbrev pub asked_count : Op → List Awaited → ℕ
asked_count asked awaited = length (filter (asks_for asked) awaited)

-- the same behind an operation that acts, where it was this number before it
abbrev pub counted_by : Op → Op → ℕ → ℕ
counted_by asked (Store m) count = count + asked_count asked (becomes_awaited m)
counted_by asked (Release publisher incarnation id) count =
    if asks_for asked (record { publisher = publisher; incarnation = incarnation; id = id }) then count - 1 else count
counted_by asked (Forget publisher incarnation) count = if asks_of asked publisher incarnation then 0 else count

abbrev pub counted_after : Op → ℕ → List Op → ℕ
counted_after asked count [] = count
counted_after asked count (op ∷ ops) = counted_after asked (counted_by asked op count) ops

-- a Store of QoS 0 or 1 acts whatever is awaited
abbrev pub is_free : Op → Bool
is_free (Store m) = not (m.qos == 2)
is_free (Release publisher incarnation id) = false
is_free (Forget publisher incarnation) = false

-- how many are awaited in all behind an operation, of those before it by how many it asks for; none where it doesn't act
abbrev pub taken_total : ℕ → ℕ → Option ℕ
taken_total count total = if nat_lt 0 count then Some (total - count) else None

abbrev pub total_by : Op → ℕ → ℕ → Option ℕ
total_by (Store m) count total = if (m.qos == 2) && nat_lt 0 count then None else Some (total + length (becomes_awaited m))
total_by (Release publisher incarnation id) count total = taken_total count total
total_by (Forget publisher incarnation) count total = taken_total count total
