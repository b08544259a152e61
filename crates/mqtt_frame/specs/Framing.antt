-- How a stream of bytes is cut into packets (MQTT 2.1): those that are whole, the bytes behind them, and what is wrong with
-- the header at which they end, if it is bad.
use Rattle.std.specs.Prelude.{ℕ, zero, suc, ◌+◌, ◌<◌, ◌≤◌, nat_lt, nat_le, if◌then◌else◌, List, [], ◌∷◌, length, take, drop, Option, Some, None, Result, Ok, Err}
use Rattle.wire_fields.specs.declared.cut.Cut.{Cut}
use Rattle.wire_fields.specs.declared.cut.Cut.TheVariants.{Short, Bad}
use Rattle.wire_fields.specs.Spelled.{spelled_var}
use Rattle.wire_fields.specs.Reading.{var_at}
use Rattle.mqtt_frame.specs.declared.front.Front.{Front}
use Rattle.mqtt_frame.specs.declared.front.Front.TheVariants.{Whole, Begun, Refused}
use Rattle.mqtt_frame.specs.declared.refused.BadHeader.{BadHeader}
use Rattle.mqtt_frame.specs.declared.refused.BadHeader.TheVariants.{Length, Size}

-- How many bytes a packet has with this Remaining Length: the first byte, the length in its shortest spelling, and as many
-- as it says (MQTT 2.1.4).
abbrev pub packet_size : ℕ → ℕ
packet_size remaining = 1 + length (spelled_var remaining) + remaining

-- a packet of so many bytes, of which so many are there; it is refused before the rest has come (MQTT 3.1.2.11.4)
abbrev pub front_sized : ℕ → ℕ → ℕ → Front
front_sized limit there size = if nat_lt limit size then Refused Size else (if nat_le size there then Whole size else Begun)

-- the same, by what was read of the Remaining Length: more bytes may complete it, or none can (MQTT 1.5.5)
abbrev pub front_with : ℕ → ℕ → Result (ℕ × List ℕ) Cut → Front
front_with limit there (Ok found) = front_sized limit there (packet_size found.0)
front_with limit there (Err Short) = Begun
front_with limit there (Err Bad) = Refused Length

-- what stands at the front of a stream
unfoldable pub front_of : ℕ → List ℕ → Front
front_of limit stream = front_with limit (length stream) (var_at (drop 1 stream))

-- a whole packet has a byte or more, and all of them are among so many
abbrev pub IsThere : Front → ℕ → Type 0
IsThere (Whole size) there = (0 < size) × (size ≤ there)
IsThere Begun there = Unit {0}
IsThere (Refused header) there = Unit {0}

-- A stream cut into its whole packets, in order, and the bytes behind them. They end where the next packet isn't whole, and
-- at the first bad header.
pub record Framed : Type 0 where
  pub packets : List (List ℕ)
  pub rest : List ℕ
  pub bad : Option BadHeader

-- the first packet, by what stands at the front, and then what is behind it
abbrev pub and_front : Front → List ℕ → Framed → Framed
and_front (Whole size) stream later = record { packets = take size stream ∷ later.packets; rest = later.rest; bad = later.bad }
and_front Begun stream later = record { packets = []; rest = stream; bad = None }
and_front (Refused header) stream later = record { packets = []; rest = stream; bad = Some header }

abbrev pub behind : Front → List ℕ → List ℕ
behind (Whole size) stream = drop size stream
behind Begun stream = []
behind (Refused header) stream = []

-- at most so many packets
abbrev pub framed_within : ℕ → ℕ → List ℕ → Framed
framed_within limit zero stream = record { packets = []; rest = stream; bad = None }
framed_within limit (suc more) stream = and_front (front_of limit stream) stream (framed_within limit more (behind (front_of limit stream) stream))

-- all of them: each has a byte or more
unfoldable pub framed : ℕ → List ℕ → Framed
framed limit stream = framed_within limit (length stream) stream
