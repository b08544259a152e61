-- The number of digits that follow those of a number.
use Rattle.std.specs.Prelude.{ℕ, ◌&&◌, nat_le, if◌then◌else◌, List, Option, Some, None}
use Rattle.std.specs.List.{list_all}
use Rattle.std.specs.Char.{is_ascii_digit}
use Rattle.std.specs.Str.Parse.{digits_value_after}

-- the number of four bytes that digits write when they follow those of a number, none where it is larger or one isn't a digit
abbrev pub number_after : ℕ → List ℕ → Option ℕ
number_after n word = if list_all is_ascii_digit word && nat_le (digits_value_after 10 n word) 4294967295 then Some (digits_value_after 10 n word) else None
