-- What is spelled is of this version of the protocol.
use Rattle.std.proofs.Common.{◌≡◌, ℕ, ◌≤◌, Bool, false, List, ◌++◌, length, Option, refl, ap, ◌∙◌, arith}
use Rattle.std.specs.Prelude.{codes}
use Rattle.std.proofs.lemmas.Bool.{ne_eqb}
use Rattle.mqtt_packet.specs.declared.packet.AckKind.TheVariants.{Puback, Pubrec, Pubrel, Pubcomp}
use Rattle.wire_fields.specs.Spelled.{spelled_u8, spelled_text}
use Rattle.mqtt_packet.specs.Packet.{PlainPacket, Connect, Connack, Publish, Ack, Subscribe, Suback, Unsubscribe, Unsuback, Pingreq, Pingresp, Disconnect, Auth}
use Rattle.mqtt_packet.specs.Spelling.{first_byte}
use Rattle.mqtt_packet.specs.Spells.{IsBody, Spells}
use Rattle.mqtt_packet.specs.Reading.{◌>>=◌, only_if, protocol_at}
use Rattle.mqtt_packet.specs.Answer.{protocol_in, is_other, is_other_version}
use Rattle.mqtt_packet.specs.ConnectLaws.{mqtt_fits, protocol_reads}
use Rattle.mqtt_packet.specs.FrameLaws.{framed_again}

-- behind the name and the version of a CONNECT
connect_is_5 : (body rest : List ℕ) → length body ≤ 268435455 → body ≡ spelled_text (codes "MQTT") ++ (spelled_u8 5 ++ rest)
    → is_other (protocol_at body) ≡ false
connect_is_5 body rest few e = ap is_other (protocol_reads.again body ((codes "MQTT", 5), rest) few (record {
  field = spelled_text (codes "MQTT") ++ spelled_u8 5;
  is = record {
    first = spelled_text (codes "MQTT");
    second = spelled_u8 5;
    is_first = record { fits = mqtt_fits; is = refl };
    is_second = record { fits = omega arith; is = refl };
    parts = refl;
  };
  parts = e;
}))

no_connect : (first : ℕ) (body : List ℕ) → 17 ≤ first → is_other (protocol_in (first, body)) ≡ false
no_connect first body le =
    ap (λ (b : Bool). is_other (only_if b (protocol_at body))) (ne_eqb first 16 (λ e. omega (arith, le, e)))

this_version : (sent : PlainPacket) (body : List ℕ) → length body ≤ 268435455 → IsBody sent body
    → is_other (protocol_in (first_byte sent, body)) ≡ false
this_version (Connect c) body few form = connect_is_5 body _ few form
this_version (Connack c) body few form = refl
this_version (Publish p) body few form = no_connect (first_byte (Publish p)) body (omega arith)
this_version (Ack Puback a) body few form = refl
this_version (Ack Pubrec a) body few form = refl
this_version (Ack Pubrel a) body few form = refl
this_version (Ack Pubcomp a) body few form = refl
this_version (Subscribe s) body few form = refl
this_version (Suback s) body few form = refl
this_version (Unsubscribe u) body few form = refl
this_version (Unsuback u) body few form = refl
this_version Pingreq body few form = refl
this_version Pingresp body few form = refl
this_version (Disconnect d) body few form = refl
this_version (Auth a) body few form = refl

pub spelled_is_this_version : (bytes : List ℕ) (packet : PlainPacket) → Spells bytes packet → is_other_version bytes ≡ false
unfolding is_other_version
spelled_is_this_version bytes packet s =
    ap is_other_version s.parts
    ∙ ap (λ (r : Option (ℕ × List ℕ)). is_other (r >>= protocol_in)) (framed_again (first_byte s.sent) s.body s.has_length)
    ∙ this_version s.sent s.body s.has_length s.form
