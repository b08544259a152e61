-- Computed examples: what these bytes are cut into.
use Rattle.std.specs.Prelude.{◌≡◌, [], ◌∷◌, Some, None, refl}
use Rattle.wire_fields.specs.Computing.{computing}
use Rattle.mqtt_frame.specs.declared.refused.BadHeader.TheVariants.{Length, Size}
use Rattle.mqtt_frame.specs.Framing.{front_of, framed}
use Rattle.mqtt_frame.specs.PlainFramer.{opening, fed_all}
use Rattle.mqtt_frame.specs.Missing.{missing, wanted}

-- PINGREQ, a PUBLISH of four bytes, and the first byte of another packet
two_and_a_rest : framed 100 (0xC0 ∷ 0x00 ∷ 0x30 ∷ 0x02 ∷ 0x00 ∷ 0x00 ∷ 0xE0 ∷ [])
    ≡ record { packets = (0xC0 ∷ 0x00 ∷ []) ∷ (0x30 ∷ 0x02 ∷ 0x00 ∷ 0x00 ∷ []) ∷ []; rest = 0xE0 ∷ []; bad = None }
unfolding computing front_of framed
two_and_a_rest = refl

-- a Remaining Length of 0 in two bytes, behind a packet that is given
long_form : framed 100 (0xC0 ∷ 0x00 ∷ 0xC0 ∷ 0x80 ∷ 0x00 ∷ []) ≡ record { packets = (0xC0 ∷ 0x00 ∷ []) ∷ []; rest = 0xC0 ∷ 0x80 ∷ 0x00 ∷ []; bad = Some Length }
unfolding computing front_of framed
long_form = refl

-- a fourth length byte with bit 7 set
four_length_bytes : framed 100 (0x30 ∷ 0xFF ∷ 0xFF ∷ 0xFF ∷ 0xFF ∷ []) ≡ record { packets = []; rest = 0x30 ∷ 0xFF ∷ 0xFF ∷ 0xFF ∷ 0xFF ∷ []; bad = Some Length }
unfolding computing front_of framed
four_length_bytes = refl

-- a limit that is met, and one that is passed by a byte before the rest has come
limit_met : framed 4 (0x30 ∷ 0x02 ∷ 0x00 ∷ 0x00 ∷ []) ≡ record { packets = (0x30 ∷ 0x02 ∷ 0x00 ∷ 0x00 ∷ []) ∷ []; rest = []; bad = None }
unfolding computing front_of framed
limit_met = refl

limit_passed : framed 3 (0x30 ∷ 0x02 ∷ []) ≡ record { packets = []; rest = 0x30 ∷ 0x02 ∷ []; bad = Some Size }
unfolding computing front_of framed
limit_passed = refl

-- a header that is cut within its length of 321, 0xC1 0x02
cut_header : framed 400 (0x30 ∷ 0xC1 ∷ []) ≡ record { packets = []; rest = 0x30 ∷ 0xC1 ∷ []; bad = None }
unfolding computing front_of framed
cut_header = refl

-- 321 and its header are 324 bytes
size_of_321 : framed 323 (0x30 ∷ 0xC1 ∷ 0x02 ∷ []) ≡ record { packets = []; rest = 0x30 ∷ 0xC1 ∷ 0x02 ∷ []; bad = Some Size }
unfolding computing front_of framed
size_of_321 = refl

-- the same in pieces that cut a header, a body, and nothing
in_pieces : fed_all (opening 100) ((0xC0 ∷ []) ∷ (0x00 ∷ 0x30 ∷ 0x02 ∷ 0x00 ∷ []) ∷ [] ∷ (0x00 ∷ 0xE0 ∷ []) ∷ [])
    ≡ record { packets = (0xC0 ∷ 0x00 ∷ []) ∷ (0x30 ∷ 0x02 ∷ 0x00 ∷ 0x00 ∷ []) ∷ []; framer = record { limit = 100; kept = 0xE0 ∷ []; bad = None } }
unfolding computing front_of framed
in_pieces = refl

-- once a header was bad, a whole packet isn't given
after_the_end : fed_all (opening 3) ((0xC0 ∷ 0x00 ∷ 0x30 ∷ []) ∷ (0x02 ∷ []) ∷ (0xC0 ∷ 0x00 ∷ []) ∷ [])
    ≡ record { packets = (0xC0 ∷ 0x00 ∷ []) ∷ []; framer = record { limit = 3; kept = []; bad = Some Size } }
unfolding computing front_of framed
after_the_end = refl

-- of a piece, what completes the packet that has begun and no more: behind a cut header, behind a whole one, and where none has
-- begun
missing_behind_a_byte : missing 100 (0x30 ∷ []) (0x02 ∷ 0x00 ∷ 0x00 ∷ 0xC0 ∷ 0x00 ∷ []) ≡ 3
unfolding computing wanted
missing_behind_a_byte = refl

missing_behind_a_header : missing 100 (0x30 ∷ 0x02 ∷ 0x00 ∷ []) (0x00 ∷ 0xC0 ∷ 0x00 ∷ []) ≡ 1
unfolding computing wanted
missing_behind_a_header = refl

missing_of_none : missing 100 [] (0x30 ∷ 0x02 ∷ []) ≡ 0
unfolding computing wanted
missing_of_none = refl
