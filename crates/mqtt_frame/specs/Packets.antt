-- What a whole packet is, and what the framing of a stream has to do with it.
use Rattle.std.specs.Prelude.{ℕ, ◌≡◌, ◌≤◌, List, [], ◌∷◌, ◌++◌, length}
use Rattle.wire_fields.specs.Spelled.{spelled_var}
use Rattle.mqtt_frame.specs.Framing.{Framed}

-- a first byte, the length of the body in its shortest spelling, and the body (MQTT 2.1)
abbrev pub packet_of : ℕ → List ℕ → List ℕ
packet_of first body = first ∷ spelled_var (length body) ++ body

-- It is such a one, with a length that can be spelled (MQTT 1.5.5), and not longer than the limit.
pub record IsPacket (limit : ℕ) (packet : List ℕ) : Type 0 where
  pub first : ℕ
  pub body : List ℕ
  pub parts : packet ≡ packet_of first body
  pub has_length : length body ≤ 268435455
  pub within : length packet ≤ limit

abbrev pub ArePackets : ℕ → List (List ℕ) → Type 0
ArePackets limit [] = Unit {0}
ArePackets limit (packet ∷ packets) = IsPacket limit packet × ArePackets limit packets

-- packets, and behind them what a stream is cut into
abbrev pub behind_packets : List (List ℕ) → Framed → Framed
behind_packets packets cut = record { packets = packets ++ cut.packets; rest = cut.rest; bad = cut.bad }
