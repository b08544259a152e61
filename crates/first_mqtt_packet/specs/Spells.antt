-- Which bytes spell which packet.
use Rattle.std.specs.Prelude.{ℕ, ◌^◌, ◌<◌, ◌≤◌, ◌≡◌, false, IsTrue, List, [], ◌∷◌, length, None}
use Rattle.first_mqtt_packet.specs.declared.props.Prop.TheVariants.{Four}
use Rattle.first_mqtt_packet.specs.declared.packet.Packet.{Packet}
use Rattle.first_mqtt_packet.specs.declared.packet.Packet.TheVariants.{Connect, Publish, Subscribe}
use Rattle.first_mqtt_packet.specs.Written.{written}
use Rattle.first_mqtt_packet.specs.Reading.{is_plain_client, is_plain_topic}

-- The values that the three forms have, by kind.
pub data IsBuilt : Packet → Type 0 where
  -- a first CONNECT of a client, which keeps its session for some time
  connects : {keep_alive expiry : ℕ} {client : List ℕ} → keep_alive < 2 ^ 16 → 0 < expiry → expiry < 2 ^ 32 → IsTrue (is_plain_client client)
      → IsBuilt (Connect false keep_alive (Four 17 expiry ∷ []) client None None None)
  -- one filter with QoS 1
  subscribes : {id : ℕ} {filter : List ℕ} → 0 < id → id < 2 ^ 16 → IsTrue (is_plain_topic filter)
      → IsBuilt (Subscribe id [] (record { filter = filter; options = 1 } ∷ []))
  -- a message of QoS 1
  publishes : {id : ℕ} {topic payload : List ℕ} → 0 < id → id < 2 ^ 16 → IsTrue (is_plain_topic topic)
      → IsBuilt (Publish false 1 false topic id [] payload)

-- each of the three has its one spelling, if what follows its length is at most 268,435,455 bytes (MQTT 1.5.5)
abbrev pub Spells : List ℕ → Packet → Type 0
Spells bytes packet = IsBuilt packet × (bytes ≡ written packet) × (length bytes ≤ 268435460)
