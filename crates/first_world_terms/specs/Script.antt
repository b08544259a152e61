-- The lines of a script.
use Rattle.std.specs.Prelude.{ℕ, ◌+◌, ◌*◌, Bool, ◌&&◌, ◌||◌, not, ◌==◌, nat_le, if◌then◌else◌, List, [], ◌∷◌, length, slice_index, codes, Option, Some, None, Result, Ok, Err, ◌≡◌, refl}
use Rattle.std.specs.List.{list_all}
use Rattle.std.specs.Char.{is_ascii_digit}
use Rattle.std.specs.Str.{bytes_eq}
use Rattle.std.specs.Str.Parse.{digits_value}
use Rattle.hex.specs.Hex.{decode_of}
use Rattle.hex.specs.declared.error.FromHexError.{FromHexError}
use Rattle.first_topic_name.specs.Pieces.{pieces}

-- What a line does: nothing, open a connection, send bytes on it, pump it.
pub data Line : Type 0 where
  Nothing : Line
  Open : ℕ → Line
  Send : ℕ → List ℕ → Line
  Pump : ℕ → Line

-- digits without a leading zero
abbrev pub is_decimal : List ℕ → Bool
is_decimal text = nat_le 1 (length text) && list_all is_ascii_digit text && ((length text == 1) || not (slice_index text 0 == 48))

-- the number that a text is in decimal, if it is at most the limit
abbrev pub number_of : ℕ → List ℕ → Option ℕ
number_of limit text = if is_decimal text && nat_le (digits_value 10 text) limit then Some (digits_value 10 text) else None

-- the bytes that digits stand for in pairs
abbrev pub bytes_or_none : Result (List ℕ) FromHexError → Option (List ℕ)
bytes_or_none (Ok bytes) = Some bytes
bytes_or_none (Err e) = None

-- 1 to 1,048,576 pairs of hexadecimal digits of either case
abbrev pub hex_of : List ℕ → Option (List ℕ)
hex_of text = if nat_le 2 (length text) && nat_le (length text) (2 * 1048576) then bytes_or_none (decode_of text) else None

abbrev pub open_of : Option ℕ → Option Line
open_of None = None
open_of (Some c) = Some (Open c)

abbrev pub pump_of : Option ℕ → Option Line
pump_of None = None
pump_of (Some c) = Some (Pump c)

abbrev pub send_of : Option ℕ → Option (List ℕ) → Option Line
send_of None bytes = None
send_of (Some c) None = None
send_of (Some c) (Some bytes) = Some (Send c bytes)

-- a connection is a number of two bytes
abbrev pub connection_of : List ℕ → Option ℕ
connection_of text = number_of 65535 text

-- the line of these words, none where it is outside the grammar
abbrev pub line_of_words : List (List ℕ) → Option Line
line_of_words [] = None
line_of_words (word ∷ []) = None
line_of_words (word ∷ c ∷ []) =
    if bytes_eq word (codes "open") then open_of (connection_of c)
    else if bytes_eq word (codes "pump") then pump_of (connection_of c)
    else None
line_of_words (word ∷ c ∷ hex ∷ []) = if bytes_eq word (codes "send") then send_of (connection_of c) (hex_of hex) else None
line_of_words (word ∷ c ∷ hex ∷ more ∷ words) = None

-- An empty line and a comment do nothing; else one space parts the words.
abbrev pub line_of : List ℕ → Option Line
line_of [] = Some Nothing
line_of (b ∷ bs) = if b == 35 then Some Nothing else line_of_words (pieces 32 (b ∷ bs))

-- the texts of the lines, which a line feed ends; what follows the last one is a line too
abbrev pub line_texts : List ℕ → List (List ℕ)
line_texts script = pieces 10 script

-- the number of the first line outside the grammar, counted on from a number, none where there is none
abbrev pub bad_line_under : ℕ → Option Line → Option ℕ → Option ℕ
bad_line_under number (Some line) later = later
bad_line_under number None later = Some number

abbrev pub first_bad_line : ℕ → List (List ℕ) → Option ℕ
first_bad_line number [] = None
first_bad_line number (text ∷ texts) = bad_line_under number (line_of text) (first_bad_line (number + 1) texts)

-- examples: a comment, a line, and lines outside the grammar
comment : line_of (codes "# open") ≡ Some Nothing
comment = refl

opens : line_of (codes "open 65535") ≡ Some (Open 65535)
opens = refl

leading_zero : line_of (codes "open 01") ≡ None
leading_zero = refl

two_spaces : line_of (codes "open  1") ≡ None
two_spaces = refl

too_large : line_of (codes "pump 65536") ≡ None
too_large = refl
