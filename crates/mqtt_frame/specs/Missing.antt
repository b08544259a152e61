-- How many bytes of a piece complete the packet that has begun before it.
use Rattle.std.specs.Prelude.{ℕ, ◌-◌, ◌==◌, min, nat_le, if◌then◌else◌, List, ◌++◌, length, take, drop, Result, Ok, Err}
use Rattle.wire_fields.specs.declared.cut.Cut.{Cut}
use Rattle.wire_fields.specs.Reading.{var_at}
use Rattle.mqtt_frame.specs.Framing.{packet_size}

-- a packet within the limit is wanted whole, and of another one the header, of 5 bytes at most
abbrev pub size_within : ℕ → ℕ → ℕ
size_within limit size = if nat_le size limit then size else 5

abbrev pub wanted_with : ℕ → Result (ℕ × List ℕ) Cut → ℕ
wanted_with limit (Ok found) = size_within limit (packet_size found.0)
wanted_with limit (Err cut) = 5

-- how many bytes to have of the packet whose header begins so
unfoldable pub wanted : ℕ → List ℕ → ℕ
wanted limit header = wanted_with limit (var_at (drop 1 header))

-- the piece's bytes up to the header's end, as far as they are there
abbrev pub head_length : List ℕ → List ℕ → ℕ
head_length kept piece = min (5 - length kept) (length piece)

-- none where no packet has begun, and at most the piece
abbrev pub missing : ℕ → List ℕ → List ℕ → ℕ
missing limit kept piece = if length kept == 0 then 0 else min (wanted limit (kept ++ take (head_length kept piece) piece) - length kept) (length piece)
