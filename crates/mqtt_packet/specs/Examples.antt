-- Computed examples: what these bytes are read as, and how these packets are written.
use Rattle.std.specs.Prelude.{ℕ, false, true, List, [], ◌∷◌, ◌++◌, Some, None, Ok, Err, codes, ◌≡◌, refl}
use Rattle.wire_fields.specs.Computing.{computing}
use Rattle.mqtt_props.specs.declared.prop.Prop.TheVariants.{Byte, Four, Pair}
use Rattle.mqtt_props.specs.Reading.{prop_at}
use Rattle.mqtt_props.specs.Props as Lists
use Rattle.mqtt_packet.specs.declared.packet.AckKind.TheVariants.{Puback, Pubrel}
use Rattle.mqtt_packet.specs.declared.refused.ReadRefused.TheVariants.{Version, Malformed, Protocol}
use Rattle.mqtt_packet.specs.Packet.{PlainPacket, Connect, Publish, ack, Pingreq, Disconnect, Auth}
use Rattle.mqtt_packet.specs.Spelling.{written}
use Rattle.mqtt_packet.specs.Reading.{each_within, packet_in}
use Rattle.mqtt_packet.specs.Answer.{answer, is_other_version}

-- `unfolding reading` opens what a fact about the bytes of a packet needs
unfoldable pub reading : Unit {0}
unfolding computing prop_at Lists.each_within Lists.in_writing_order each_within packet_in is_other_version
reading = tt

-- ---- three spellings of one PUBACK, and the one that is written

short_puback : answer (0x40 ∷ 0x02 ∷ 0x00 ∷ 0x07 ∷ []) ≡ Ok (ack Puback 7 0 [])
unfolding reading
short_puback = refl

with_reason : answer (0x40 ∷ 0x03 ∷ 0x00 ∷ 0x07 ∷ 0x00 ∷ []) ≡ Ok (ack Puback 7 0 [])
unfolding reading
with_reason = refl

with_length : answer (0x40 ∷ 0x04 ∷ 0x00 ∷ 0x07 ∷ 0x00 ∷ 0x00 ∷ []) ≡ Ok (ack Puback 7 0 [])
unfolding reading
with_length = refl

written_puback : written (ack Puback 7 0 []) ≡ 0x40 ∷ 0x02 ∷ 0x00 ∷ 0x07 ∷ []
written_puback = refl

-- a PUBREL has flags 2
written_pubrel : written (ack Pubrel 7 0x92 []) ≡ 0x62 ∷ 0x03 ∷ 0x00 ∷ 0x07 ∷ 0x92 ∷ []
written_pubrel = refl

pubrel_of_flags_0 : answer (0x60 ∷ 0x02 ∷ 0x00 ∷ 0x07 ∷ []) ≡ Err Malformed
unfolding reading
pubrel_of_flags_0 = refl

identifier_0 : answer (0x40 ∷ 0x02 ∷ 0x00 ∷ 0x00 ∷ []) ≡ Err Malformed
unfolding reading
identifier_0 = refl

-- the length in a byte too many
long_length : answer (0x40 ∷ 0x82 ∷ 0x00 ∷ 0x00 ∷ 0x07 ∷ []) ≡ Err Malformed
unfolding reading
long_length = refl

-- ---- CONNECT

-- client `a`, Clean Start, and a will of QoS 1
connect_of_a : PlainPacket
connect_of_a = Connect (record {
  clean = true;
  keep_alive = 60;
  props = Four 0x11 3600 ∷ [];
  client = codes "a";
  will = Some (record { qos = 1; retain = false; props = []; topic = codes "t"; payload = codes "x" });
  user = None;
  password = None;
})

bytes_of_a : List ℕ
bytes_of_a =
    0x10 ∷ 0x1A ∷ 0x00 ∷ 0x04 ∷ codes "MQTT"
    ++ (0x05 ∷ 0x0E ∷ 0x00 ∷ 0x3C ∷ 0x05 ∷ 0x11 ∷ 0x00 ∷ 0x00 ∷ 0x0E ∷ 0x10 ∷ 0x00 ∷ 0x01 ∷ 0x61 ∷ 0x00 ∷ 0x00 ∷ 0x01 ∷ 0x74 ∷ 0x00 ∷ 0x01 ∷ 0x78 ∷ [])

read_of_a : answer bytes_of_a ≡ Ok connect_of_a
unfolding reading connect_of_a bytes_of_a
read_of_a = refl

written_of_a : written connect_of_a ≡ bytes_of_a
unfolding connect_of_a bytes_of_a
written_of_a = refl

-- version 4, whatever follows
version_4 : answer (0x10 ∷ 0x07 ∷ 0x00 ∷ 0x04 ∷ codes "MQTT" ++ (0x04 ∷ [])) ≡ Err Version
unfolding reading
version_4 = refl

-- version 5, and nothing behind it
only_version : answer (0x10 ∷ 0x07 ∷ 0x00 ∷ 0x04 ∷ codes "MQTT" ++ (0x05 ∷ [])) ≡ Err Malformed
unfolding reading
only_version = refl

-- Will QoS where there is no will
qos_without_will : answer (0x10 ∷ 0x0E ∷ 0x00 ∷ 0x04 ∷ codes "MQTT" ++ (0x05 ∷ 0x08 ∷ 0x00 ∷ 0x00 ∷ 0x00 ∷ 0x00 ∷ 0x01 ∷ 0x61 ∷ [])) ≡ Err Malformed
unfolding reading
qos_without_will = refl

-- a will's delay among CONNECT's own properties
delay_of_connect : answer (0x10 ∷ 0x13 ∷ 0x00 ∷ 0x04 ∷ codes "MQTT" ++ (0x05 ∷ 0x02 ∷ 0x00 ∷ 0x00 ∷ 0x05 ∷ 0x18 ∷ 0x00 ∷ 0x00 ∷ 0x00 ∷ 0x01 ∷ 0x00 ∷ 0x01 ∷ 0x61 ∷ [])) ≡ Err Malformed
unfolding reading
delay_of_connect = refl

-- Authentication Data alone
data_alone : answer (0x10 ∷ 0x11 ∷ 0x00 ∷ 0x04 ∷ codes "MQTT" ++ (0x05 ∷ 0x02 ∷ 0x00 ∷ 0x00 ∷ 0x03 ∷ 0x16 ∷ 0x00 ∷ 0x00 ∷ 0x00 ∷ 0x01 ∷ 0x61 ∷ [])) ≡ Err (Protocol 6)
unfolding reading
data_alone = refl

-- ---- PUBLISH

-- properties in another order are read, and written by ascending identifier
unordered : answer (0x30 ∷ 0x0D ∷ 0x00 ∷ 0x01 ∷ 0x61 ∷ 0x09 ∷ 0x26 ∷ 0x00 ∷ 0x01 ∷ 0x61 ∷ 0x00 ∷ 0x01 ∷ 0x62 ∷ 0x01 ∷ 0x01 ∷ [])
    ≡ Ok (Publish (record { dup = false; qos = 0; retain = false; topic = codes "a"; id = 0; props = Byte 0x01 0x01 ∷ Pair (codes "a") (codes "b") ∷ []; payload = [] }))
unfolding reading
unordered = refl

qos_3 : answer (0x36 ∷ 0x06 ∷ 0x00 ∷ 0x01 ∷ 0x61 ∷ 0x00 ∷ 0x07 ∷ 0x00 ∷ []) ≡ Err Malformed
unfolding reading
qos_3 = refl

dup_of_qos_0 : answer (0x38 ∷ 0x04 ∷ 0x00 ∷ 0x01 ∷ 0x61 ∷ 0x00 ∷ []) ≡ Err Malformed
unfolding reading
dup_of_qos_0 = refl

wildcard : answer (0x30 ∷ 0x04 ∷ 0x00 ∷ 0x01 ∷ 0x23 ∷ 0x00 ∷ []) ≡ Err Malformed
unfolding reading
wildcard = refl

-- an empty topic name is read; a Payload Format Indicator that stands twice comes before its value 2
twice : answer (0x30 ∷ 0x07 ∷ 0x00 ∷ 0x00 ∷ 0x04 ∷ 0x01 ∷ 0x02 ∷ 0x01 ∷ 0x01 ∷ []) ≡ Err (Protocol 4)
unfolding reading
twice = refl

-- a Response Topic `+`
wild_response : answer (0x30 ∷ 0x07 ∷ 0x00 ∷ 0x00 ∷ 0x04 ∷ 0x08 ∷ 0x00 ∷ 0x01 ∷ 0x2B ∷ []) ≡ Err (Protocol 7)
unfolding reading
wild_response = refl

-- ---- SUBSCRIBE

no_filter : answer (0x82 ∷ 0x03 ∷ 0x00 ∷ 0x01 ∷ 0x00 ∷ []) ≡ Err (Protocol 10)
unfolding reading
no_filter = refl

retain_handling_3 : answer (0x82 ∷ 0x07 ∷ 0x00 ∷ 0x01 ∷ 0x00 ∷ 0x00 ∷ 0x01 ∷ 0x61 ∷ 0x30 ∷ []) ≡ Err (Protocol 11)
unfolding reading
retain_handling_3 = refl

reserved_option : answer (0x82 ∷ 0x07 ∷ 0x00 ∷ 0x01 ∷ 0x00 ∷ 0x00 ∷ 0x01 ∷ 0x61 ∷ 0x40 ∷ []) ≡ Err Malformed
unfolding reading
reserved_option = refl

-- ---- the ends

ping : answer (0xC0 ∷ 0x00 ∷ []) ≡ Ok Pingreq
unfolding reading
ping = refl

long_ping : answer (0xC0 ∷ 0x01 ∷ 0x00 ∷ []) ≡ Err Malformed
unfolding reading
long_ping = refl

no_reason : answer (0xE0 ∷ 0x00 ∷ []) ≡ Ok (Disconnect (record { reason = 0; props = [] }))
unfolding reading
no_reason = refl

-- an AUTH has no form with the reason alone
reason_of_auth : answer (0xF0 ∷ 0x01 ∷ 0x18 ∷ []) ≡ Err Malformed
unfolding reading
reason_of_auth = refl

written_auth : written (Auth (record { reason = 0x18; props = [] })) ≡ 0xF0 ∷ 0x02 ∷ 0x18 ∷ 0x00 ∷ []
written_auth = refl

-- a kind of number 0
no_kind : answer (0x00 ∷ 0x00 ∷ []) ≡ Err Malformed
unfolding reading
no_kind = refl
