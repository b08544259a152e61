-- One name to unfold where a fact is about a whole run.
use Rattle.std.specs.Fmt.{digits}
use Rattle.hex.specs.Hex.{decode_pairs, encode_with}
use Rattle.sha2.specs.Sha256.{compress, digest_bytes, first_words, hash_after, rounds, schedule, sha256}
use Rattle.wire_fields.specs.Computing.{computing}
use Rattle.mqtt_frame.specs.Framing.{front_of, framed}
use Rattle.mqtt_props.specs.Reading.{prop_at}
use Rattle.mqtt_props.specs.Props as Lists
use Rattle.mqtt_packet.specs.Reading.{each_within, packet_in}
use Rattle.mqtt_packet.specs.Answer.{is_other_version}

-- `unfolding running` opens what a run of a script needs, from its bytes to the printed ones
unfoldable pub running : Unit {0}
unfolding digits decode_pairs encode_with first_words schedule rounds compress hash_after digest_bytes sha256 computing
    front_of framed prop_at Lists.each_within Lists.in_writing_order each_within packet_in is_other_version
running = tt
