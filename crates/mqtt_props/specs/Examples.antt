-- Computed examples: what these bytes are read as.
use Rattle.std.specs.Prelude.{◌≡◌, [], ◌∷◌, codes, Ok, Err, refl}
use Rattle.wire_fields.specs.Computing.{computing}
use Rattle.mqtt_props.specs.declared.table.Holder.TheVariants.{Connect, Publish, Will}
use Rattle.mqtt_props.specs.declared.prop.Prop.TheVariants.{Byte, Var, Pair}
use Rattle.mqtt_props.specs.declared.refused.PropRefused.TheVariants.{Unknown, Misplaced, Spelling, Repeated, BadValue}
use Rattle.mqtt_props.specs.Reading.{prop_at}
use Rattle.mqtt_props.specs.Props.{each_within, in_writing_order, whole_props, props_at, list_at, spelled_props}

user_property : prop_at Publish (0x26 ∷ 0x00 ∷ 0x01 ∷ 0x61 ∷ 0x00 ∷ 0x01 ∷ 0x62 ∷ 0x01 ∷ 0x01 ∷ []) ≡ Ok (Pair (codes "a") (codes "b"), 0x01 ∷ 0x01 ∷ [])
unfolding computing prop_at
user_property = refl

-- a bad value is read
byte_of_two : prop_at Publish (0x01 ∷ 0x02 ∷ []) ≡ Ok (Byte 0x01 0x02, [])
unfolding computing prop_at
byte_of_two = refl

-- an identifier of no property, in one byte and in two
no_property : prop_at Publish (0x04 ∷ 0x02 ∷ []) ≡ Err Unknown
unfolding computing prop_at
no_property = refl

no_property_of_two : prop_at Publish (0x81 ∷ 0x02 ∷ []) ≡ Err Unknown
unfolding computing prop_at
no_property_of_two = refl

-- a longer spelling of identifier 1, and one that is cut
long_identifier : prop_at Publish (0x81 ∷ 0x00 ∷ 0x00 ∷ []) ≡ Err Spelling
unfolding computing prop_at
long_identifier = refl

cut_identifier : prop_at Publish (0x81 ∷ []) ≡ Err Spelling
unfolding computing prop_at
cut_identifier = refl

-- a will's delay in CONNECT, whether or not its value is there
will_delay : prop_at Connect (0x18 ∷ []) ≡ Err Misplaced
unfolding computing prop_at
will_delay = refl

cut_value : prop_at Will (0x18 ∷ 0x00 ∷ []) ≡ Err Spelling
unfolding computing prop_at
cut_value = refl

-- read in any order, and written by ascending identifier
two_of_publish : whole_props Publish (0x09 ∷ 0x26 ∷ 0x00 ∷ 0x01 ∷ 0x61 ∷ 0x00 ∷ 0x01 ∷ 0x62 ∷ 0x01 ∷ 0x01 ∷ []) ≡ Ok (Byte 0x01 0x01 ∷ Pair (codes "a") (codes "b") ∷ [])
unfolding computing prop_at each_within in_writing_order
two_of_publish = refl

two_written : spelled_props (Byte 0x01 0x01 ∷ Pair (codes "a") (codes "b") ∷ []) ≡ 0x09 ∷ 0x01 ∷ 0x01 ∷ 0x26 ∷ 0x00 ∷ 0x01 ∷ 0x61 ∷ 0x00 ∷ 0x01 ∷ 0x62 ∷ []
two_written = refl

-- a property that doesn't stand there comes before one that is repeated, and that before a bad value
repeated_and_misplaced : whole_props Will (0x06 ∷ 0x01 ∷ 0x01 ∷ 0x01 ∷ 0x01 ∷ 0x21 ∷ 0x01 ∷ []) ≡ Err Misplaced
unfolding computing prop_at each_within in_writing_order
repeated_and_misplaced = refl

repeated_and_bad : whole_props Will (0x06 ∷ 0x01 ∷ 0x02 ∷ 0x01 ∷ 0x01 ∷ 0x01 ∷ 0x01 ∷ []) ≡ Err Repeated
unfolding computing prop_at each_within in_writing_order
repeated_and_bad = refl

one_that_is_bad : whole_props Publish (0x02 ∷ 0x0B ∷ 0x00 ∷ []) ≡ Err BadValue
unfolding computing prop_at each_within in_writing_order
one_that_is_bad = refl

-- a length that passes the bytes, before a property that the standard does not have
length_too_long : whole_props Publish (0x02 ∷ 0x04 ∷ []) ≡ Err Spelling
unfolding computing prop_at each_within in_writing_order
length_too_long = refl

byte_behind : whole_props Publish (0x00 ∷ 0x04 ∷ []) ≡ Err Spelling
unfolding computing prop_at each_within in_writing_order
byte_behind = refl

-- a list with a repeated property and a bad value is read by `list_at` alone, and the byte behind it stays
two_that_are_bad : list_at Publish (0x04 ∷ 0x01 ∷ 0x02 ∷ 0x01 ∷ 0x00 ∷ 0x61 ∷ []) ≡ Ok (Byte 0x01 0x02 ∷ Byte 0x01 0x00 ∷ [], 0x61 ∷ [])
unfolding computing prop_at each_within in_writing_order
two_that_are_bad = refl

two_that_are_refused : props_at Publish (0x04 ∷ 0x01 ∷ 0x02 ∷ 0x01 ∷ 0x00 ∷ 0x61 ∷ []) ≡ Err Repeated
unfolding computing prop_at each_within in_writing_order
two_that_are_refused = refl

-- in any order, and bytes behind that are no property
bad_identifier_read : list_at Publish (0x09 ∷ 0x26 ∷ 0x00 ∷ 0x01 ∷ 0x61 ∷ 0x00 ∷ 0x01 ∷ 0x62 ∷ 0x0B ∷ 0x00 ∷ 0x04 ∷ 0x04 ∷ []) ≡ Ok (Var 0 ∷ Pair (codes "a") (codes "b") ∷ [], 0x04 ∷ 0x04 ∷ [])
unfolding computing prop_at each_within in_writing_order
bad_identifier_read = refl

-- a property that doesn't stand there is refused, behind one that is repeated too
repeated_then_misplaced : list_at Will (0x06 ∷ 0x01 ∷ 0x02 ∷ 0x01 ∷ 0x02 ∷ 0x21 ∷ 0x01 ∷ 0x61 ∷ []) ≡ Err Misplaced
unfolding computing prop_at each_within in_writing_order
repeated_then_misplaced = refl
