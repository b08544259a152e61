-- Which bytes spell which packet (MQTT 2.1, 3): any order of properties, and the short forms and the long ones.
use Rattle.std.specs.Prelude.{ℕ, ◌≤◌, List, [], ◌∷◌, length, ◌≡◌, ◌⊎◌}
use Rattle.wire_fields.specs.Spelled.{spelled_u8, spelled_u16}
use Rattle.mqtt_frame.specs.PlainFramer.{joined}
use Rattle.mqtt_frame.specs.Packets.{packet_of}
use Rattle.mqtt_packet.specs.Packet.{PlainPacket, Connect, Connack, Publish, Ack, Subscribe, Suback, Unsubscribe, Unsuback, Pingreq, Pingresp, Disconnect, Auth, AckFields, EndFields}
use Rattle.mqtt_packet.specs.Spelling.{first_byte, whole_body}
use Rattle.mqtt_packet.specs.Fits.{Fits, arranged}

-- without properties the reason may end the body, and where it is 0 the identifier (MQTT 3.4.2.1, 3.5.2.1, 3.6.2.1, 3.7.2.1)
abbrev pub IsShortAck : AckFields → List ℕ → Type 0
IsShortAck a body =
    (a.props ≡ []) × ((body ≡ joined (spelled_u16 a.id ∷ spelled_u8 a.reason ∷ [])) ⊎ ((a.reason ≡ 0) × (body ≡ spelled_u16 a.id)))

-- without properties the reason may be the body, and where it is 0 there may be none (MQTT 3.14.2.1)
abbrev pub IsShortEnd : EndFields → List ℕ → Type 0
IsShortEnd e body = (e.props ≡ []) × ((body ≡ spelled_u8 e.reason) ⊎ ((e.reason ≡ 0) × (body ≡ [])))

-- without properties and with reason 0 there may be no body (MQTT 3.15.2.1)
abbrev pub IsNoAuth : EndFields → List ℕ → Type 0
IsNoAuth e body = (e.props ≡ []) × (e.reason ≡ 0) × (body ≡ [])

-- The bodies of a packet whose properties stand in the order that it gives.
abbrev pub IsBody : PlainPacket → List ℕ → Type 0
IsBody (Connect c) body = body ≡ whole_body (Connect c)
IsBody (Connack c) body = body ≡ whole_body (Connack c)
IsBody (Publish p) body = body ≡ whole_body (Publish p)
IsBody (Ack kind a) body = (body ≡ whole_body (Ack kind a)) ⊎ IsShortAck a body
IsBody (Subscribe s) body = body ≡ whole_body (Subscribe s)
IsBody (Suback s) body = body ≡ whole_body (Suback s)
IsBody (Unsubscribe u) body = body ≡ whole_body (Unsubscribe u)
IsBody (Unsuback u) body = body ≡ whole_body (Unsuback u)
IsBody Pingreq body = body ≡ []
IsBody Pingresp body = body ≡ []
IsBody (Disconnect d) body = (body ≡ whole_body (Disconnect d)) ⊎ IsShortEnd d body
IsBody (Auth a) body = (body ≡ whole_body (Auth a)) ⊎ IsNoAuth a body

-- The bytes are a first byte, a length in its shortest spelling and a body of that length: the body of the packet as it was
-- sent, whose properties may stand in another order.
pub record Spells (bytes : List ℕ) (packet : PlainPacket) : Type 0 where
  pub sent : PlainPacket
  pub body : List ℕ
  pub fits : Fits sent
  pub same : arranged sent ≡ packet
  pub form : IsBody sent body
  pub has_length : length body ≤ 268435455
  pub parts : bytes ≡ packet_of (first_byte sent) body
