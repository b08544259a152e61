-- Computed examples: what these lines print.
use Rattle.std.specs.Prelude.{◌≡◌, [], ◌∷◌, ◌++◌, codes, refl}
use Rattle.hex.specs.Hex.{decode_pairs, encode_with}
use Rattle.wire_fields.specs.Computing.{computing}
use Rattle.mqtt_frame.specs.Framing.{front_of, framed}
use Rattle.mqtt_props.specs.Reading.{prop_at}
use Rattle.mqtt_props.specs.Props.{each_within, in_writing_order}
use Rattle.std.specs.Fmt.{digits}
use Rattle.mqtt_packet.specs.Examples.{reading}
use Rattle.packet_lines.specs.Text.{text_of_line, text_of_input}

-- three spellings of one PUBACK, and the one that is written
long_puback : text_of_line (codes "read 400400070000") ≡ codes "ok 40020007" ++ 10 ∷ []
unfolding decode_pairs encode_with reading
long_puback = refl

another_version : text_of_line (codes "read 100d00044d5154540402003c000161") ≡ codes "version" ++ 10 ∷ []
unfolding decode_pairs reading
another_version = refl

no_filter : text_of_line (codes "read 8203000100") ≡ codes "protocol 10" ++ 10 ∷ []
unfolding decode_pairs reading digits
no_filter = refl

-- the properties of a PUBLISH, written again by ascending identifier
sorted : text_of_line (codes "props publish 09260001610001620101") ≡ codes "ok 09010126000161000162" ++ 10 ∷ []
unfolding decode_pairs encode_with computing prop_at each_within in_writing_order
sorted = refl

repeated : text_of_line (codes "props will 0401000101") ≡ codes "repeated" ++ 10 ∷ []
unfolding decode_pairs encode_with computing prop_at each_within in_writing_order
repeated = refl

-- PINGREQ in two pieces, and a PUBLISH of four bytes behind it
in_pieces : text_of_line (codes "feed 4 c0 003002 - 0000E0") ≡ codes "c000 30020000 rest" ++ 10 ∷ []
unfolding decode_pairs encode_with computing front_of framed
in_pieces = refl

-- the packets in front of a header that tells of too much
too_large : text_of_line (codes "feed 3 c0003002") ≡ codes "c000 too large" ++ 10 ∷ []
unfolding decode_pairs encode_with computing front_of framed
too_large = refl

-- an empty line, a carriage return, and a last line that no line feed ends
not_lines : text_of_input (10 ∷ (codes "feed 9 00" ++ 13 ∷ 10 ∷ codes "feed 9 -")) ≡ codes "not a line" ++ 10 ∷ codes "not a line" ++ 10 ∷ codes "rest" ++ 10 ∷ []
unfolding decode_pairs encode_with computing front_of framed
not_lines = refl
