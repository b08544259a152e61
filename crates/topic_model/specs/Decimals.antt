-- Numbers that are written in decimal digits.
use Rattle.std.specs.Prelude.{ℕ, Bool, true, false, ◌&&◌, ◌||◌, not, ◌==◌, nat_le, nat_lt, if◌then◌else◌, List, length}
use Rattle.std.specs.Prelude.{slice_index, codes, Option, Some, None, ◌≡◌, refl}
use Rattle.std.specs.List.{list_all}
use Rattle.std.specs.Char.{is_ascii_digit}
use Rattle.std.specs.Str.Parse.{digits_value}

-- decimal digits without sign or leading zero
abbrev pub is_decimal : List ℕ → Bool
is_decimal digits =
    nat_lt 0 (length digits) && list_all is_ascii_digit digits
    && ((length digits == 1) || not (slice_index digits 0 == 0x30))

-- the number that a word is in decimal, if it lies between two
abbrev pub number_between : ℕ → ℕ → List ℕ → Option ℕ
number_between least most word =
    if is_decimal word && (nat_le least (digits_value 10 word) && nat_le (digits_value 10 word) most)
    then Some (digits_value 10 word) else None

-- ---- examples

a_number : number_between 0 255 (codes "255") ≡ Some 255
a_number = refl

past_the_most : number_between 0 255 (codes "256") ≡ None
past_the_most = refl

a_leading_zero : is_decimal (codes "07") ≡ false
a_leading_zero = refl

no_digits : is_decimal (codes "") ≡ false
no_digits = refl
