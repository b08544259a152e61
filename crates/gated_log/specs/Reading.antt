-- What stands at a place, as it is read.
use Rattle.std.specs.Prelude.{ℕ, ◌≡◌, ◌+◌, ◌==◌, ◌||◌, nat_lt, if◌then◌else◌, List, [], take, drop, slice_index_or, Option, Some, None}
use Rattle.std.specs.Int.{w32, from_be_bytes}
use Rattle.gated_log.specs.Records.{front_record}
use Rattle.gated_log.specs.declared.span.Span.{Span}
use Rattle.gated_log.specs.Opens.{AreOpen, OpensWith}
use Rattle.gated_log.specs.PlainLog.{payloads_at, spans_from}

-- the length that a gate and the four bytes behind it tell in front of so many bytes, none where the gate is closed
abbrev pub length_told : List ℕ → ℕ → Option ℕ
length_told header there =
    if (slice_index_or header 0 0 == 0) || (from_be_bytes w32 (drop 1 header) == 0) || nat_lt there (6 + from_be_bytes w32 (drop 1 header))
    then None else Some (from_be_bytes w32 (drop 1 header))

-- a record of this length, or a closed gate
abbrev pub IsRecordAt : ℕ → List ℕ → Option ℕ → Type 0
IsRecordAt place bytes None = front_record (drop place bytes) ≡ None
IsRecordAt place bytes (Some length) = OpensWith (take length (drop (place + 5) bytes)) (take (5 + length) (drop place bytes)) []

-- these records are open up to a place
pub record IsFound (spans : List Span) (end : ℕ) (bytes : List ℕ) : Type 0 where
  pub are_open : AreOpen (payloads_at bytes spans) (take end bytes)
  pub places : spans ≡ spans_from 0 (payloads_at bytes spans)
