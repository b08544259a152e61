-- What reading bytes answers: the packet, or why there is none.
use Rattle.std.specs.Prelude.{ℕ, Bool, false, not, ◌==◌, if◌then◌else◌, List, Option, Some, None, Result, Ok, Err, ◌≡◌}
use Rattle.mqtt_packet.specs.declared.refused.ReadRefused.{ReadRefused}
use Rattle.mqtt_packet.specs.declared.refused.ReadRefused.TheVariants.{Version, Malformed, Protocol, Memory}
use Rattle.mqtt_packet.specs.Packet.{PlainPacket}
use Rattle.mqtt_packet.specs.Reading.{◌>>=◌, only_if, is_mqtt_5, protocol_at, framed_in, packet_in}
use Rattle.mqtt_packet.specs.Rules.{broken_rule}

-- ---- another version

-- the name and the version in the body of a CONNECT
abbrev pub protocol_in : ℕ × List ℕ → Option ((List ℕ × ℕ) × List ℕ)
protocol_in framed = only_if (framed.0 == 0x10) (protocol_at framed.1)

abbrev pub is_other : Option ((List ℕ × ℕ) × List ℕ) → Bool
is_other None = false
is_other (Some protocol) = not (is_mqtt_5 protocol.0.0 protocol.0.1)

-- a CONNECT of the right length, with a name and a version that aren't `MQTT` and 5 (MQTT 3.1.2.1, 3.1.2.2)
unfoldable pub is_other_version : List ℕ → Bool
is_other_version bytes = is_other (framed_in bytes >>= protocol_in)

-- ---- the answer

abbrev pub by_rule : PlainPacket → Option ℕ → Result PlainPacket ReadRefused
by_rule packet None = Ok packet
by_rule packet (Some rule) = Err (Protocol rule)

abbrev pub judged : Option PlainPacket → Result PlainPacket ReadRefused
judged None = Err Malformed
judged (Some packet) = by_rule packet (broken_rule packet)

-- the whole of it: another version before all else, then the grammar, then the rules
abbrev pub answer : List ℕ → Result PlainPacket ReadRefused
answer bytes = if is_other_version bytes then Err Version else judged (packet_in bytes)

-- ---- what calls give

-- want of memory says nothing of the bytes
abbrev pub UnlessMemory : ReadRefused → Type 0 → Type 0
UnlessMemory Memory claim = Unit {0}
UnlessMemory Version claim = claim
UnlessMemory Malformed claim = claim
UnlessMemory (Protocol rule) claim = claim

-- what a call gave, seen by a view, is the answer
abbrev pub AnswersAs : {X Y : Type 0} → (X → Y) → Result X ReadRefused → Result Y ReadRefused → Type 0
AnswersAs view (Ok x) wanted = wanted ≡ Ok (view x)
AnswersAs view (Err e) wanted = UnlessMemory e (wanted ≡ Err e)
