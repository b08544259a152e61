-- Computed examples: what these bytes are read as, and how these values are spelled.
use Rattle.std.specs.Prelude.{◌≡◌, [], ◌∷◌, codes, Ok, Err, refl}
use Rattle.wire_fields.specs.declared.cut.Cut.TheVariants.{Short, Bad}
use Rattle.wire_fields.specs.Spelled.{spelled_u16, spelled_u32, spelled_var, spelled_text}
use Rattle.wire_fields.specs.Reading.{var_at, bin_at, text_at}
use Rattle.wire_fields.specs.Computing.{computing}

-- the highest byte first
sixteen_bits : spelled_u16 0x1234 ≡ 0x12 ∷ 0x34 ∷ []
sixteen_bits = refl

thirty_two_bits : spelled_u32 0x01020304 ≡ 1 ∷ 2 ∷ 3 ∷ 4 ∷ []
thirty_two_bits = refl

-- the ends of each number of bytes (MQTT 1.5.5, table 1-1)
none : spelled_var 0 ≡ 0 ∷ []
none = refl

most_of_one : spelled_var 127 ≡ 0x7F ∷ []
most_of_one = refl

least_of_two : spelled_var 128 ≡ 0x80 ∷ 0x01 ∷ []
least_of_two = refl

most_of_two : spelled_var 16383 ≡ 0xFF ∷ 0x7F ∷ []
most_of_two = refl

least_of_three : spelled_var 16384 ≡ 0x80 ∷ 0x80 ∷ 0x01 ∷ []
least_of_three = refl

most_of_three : spelled_var 2097151 ≡ 0xFF ∷ 0xFF ∷ 0x7F ∷ []
most_of_three = refl

least_of_four : spelled_var 2097152 ≡ 0x80 ∷ 0x80 ∷ 0x80 ∷ 0x01 ∷ []
least_of_four = refl

most_of_four : spelled_var 268435455 ≡ 0xFF ∷ 0xFF ∷ 0xFF ∷ 0x7F ∷ []
most_of_four = refl

read_of_four : var_at (0xFF ∷ 0xFF ∷ 0xFF ∷ 0x7F ∷ 9 ∷ []) ≡ Ok (268435455, 9 ∷ [])
unfolding computing
read_of_four = refl

-- a longer spelling of 0, and of 127
long_nothing : var_at (0x80 ∷ 0x00 ∷ []) ≡ Err Bad
unfolding computing
long_nothing = refl

long_one : var_at (0xFF ∷ 0x80 ∷ 0x00 ∷ []) ≡ Err Bad
unfolding computing
long_one = refl

-- a fifth byte
five : var_at (0xFF ∷ 0xFF ∷ 0xFF ∷ 0xFF ∷ 0x01 ∷ []) ≡ Err Bad
unfolding computing
five = refl

-- what may go on
none_yet : var_at [] ≡ Err Short
unfolding computing
none_yet = refl

three_so_far : var_at (0x80 ∷ 0x80 ∷ 0x80 ∷ []) ≡ Err Short
unfolding computing
three_so_far = refl

-- `A` and U+2A6D4, of four bytes (MQTT 1.5.4, figure 1-2)
standard_text : text_at (0x00 ∷ 0x05 ∷ 0x41 ∷ 0xF0 ∷ 0xAA ∷ 0x9B ∷ 0x94 ∷ []) ≡ Ok (0x41 ∷ 0xF0 ∷ 0xAA ∷ 0x9B ∷ 0x94 ∷ [], [])
unfolding computing
standard_text = refl

-- U+FEFF is a character like others, and is kept (MQTT 1.5.4)
mark_kept : text_at (0x00 ∷ 0x03 ∷ 0xEF ∷ 0xBB ∷ 0xBF ∷ []) ≡ Ok (0xEF ∷ 0xBB ∷ 0xBF ∷ [], [])
unfolding computing
mark_kept = refl

-- a surrogate
surrogate : text_at (0x00 ∷ 0x03 ∷ 0xED ∷ 0xA0 ∷ 0x80 ∷ []) ≡ Err Bad
unfolding computing
surrogate = refl

-- U+0000 inside, in a whole text and in one that is cut short
zero_inside : text_at (0x00 ∷ 0x03 ∷ 0x61 ∷ 0x00 ∷ 0x62 ∷ []) ≡ Err Bad
unfolding computing
zero_inside = refl

zero_so_far : text_at (0x00 ∷ 0x03 ∷ 0x61 ∷ 0x00 ∷ []) ≡ Err Bad
unfolding computing
zero_so_far = refl

-- U+0000 in two bytes, which isn't its spelling
long_zero : text_at (0x00 ∷ 0x02 ∷ 0xC0 ∷ 0x80 ∷ []) ≡ Err Bad
unfolding computing
long_zero = refl

-- the first of two bytes, where one more is still to come, and where none is
cut_short : text_at (0x00 ∷ 0x02 ∷ 0xC3 ∷ []) ≡ Err Short
unfolding computing
cut_short = refl

cut_at_the_end : text_at (0x00 ∷ 0x01 ∷ 0xC3 ∷ []) ≡ Err Bad
unfolding computing
cut_at_the_end = refl

-- the first of three bytes, where one more is still to come
no_room : text_at (0x00 ∷ 0x03 ∷ 0x61 ∷ 0xE2 ∷ []) ≡ Err Bad
unfolding computing
no_room = refl

-- a byte that no character has, with bytes still to come
never_a_text : text_at (0x00 ∷ 0x09 ∷ 0xFF ∷ []) ≡ Err Bad
unfolding computing
never_a_text = refl

-- half a length
half_a_length : text_at (0x00 ∷ []) ≡ Err Short
unfolding computing
half_a_length = refl

mqtt_name : spelled_text (codes "MQTT") ≡ 0x00 ∷ 0x04 ∷ codes "MQTT"
mqtt_name = refl

bin_of_any_bytes : bin_at (0x00 ∷ 0x02 ∷ 0x00 ∷ 0xFF ∷ 0x07 ∷ []) ≡ Ok (0x00 ∷ 0xFF ∷ [], 0x07 ∷ [])
unfolding computing
bin_of_any_bytes = refl
