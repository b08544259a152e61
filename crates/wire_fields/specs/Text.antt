-- What a text is, and which bytes begin one (MQTT 1.5.4).
use Rattle.std.specs.Prelude.{ℕ, ◌+◌, Bool, ◌&&◌, ◌||◌, List, length, drop, slice_index, nat_lt, nat_le, if◌then◌else◌, is_none, Contains, IsUtf8}
use Rattle.std.specs.List.{list_all}
use Rattle.std.specs.Str.{is_utf8}
use Rattle.std.specs.Str.Lossy.{utf8_valid_len, utf8_error_len}

-- UTF-8 without U+0000
abbrev pub IsText : List ℕ → Type 0
IsText bytes = IsUtf8 bytes × ¬ (Contains bytes 0)

abbrev pub has_no_zero : List ℕ → Bool
has_no_zero bytes = list_all (λ b. nat_lt 0 b) bytes

-- `IsText` as a test
abbrev pub is_text : List ℕ → Bool
is_text bytes = is_utf8 bytes && has_no_zero bytes

-- how many bytes a character takes that isn't ASCII, by the first of them (Unicode, table 3-6)
abbrev pub char_width : ℕ → ℕ
char_width first = if nat_lt first 224 then 2 else if nat_lt first 240 then 3 else 4

-- whether the character that these are the first bytes of ends in at most so many more
abbrev pub ends_within : List ℕ → ℕ → Bool
ends_within bytes more = nat_le (char_width (slice_index bytes 0)) (length bytes + more)

-- whether some UTF-8 begins with these bytes and has so many more, at least one: they are UTF-8, or they end within a
-- character, and not in a fault
abbrev pub begins_utf8 : List ℕ → ℕ → Bool
begins_utf8 bytes more =
    let open_char = drop (utf8_valid_len bytes) bytes in
    is_utf8 bytes || (is_none (utf8_error_len open_char) && ends_within open_char more)

-- whether some text does
abbrev pub begins_text : List ℕ → ℕ → Bool
begins_text bytes more = has_no_zero bytes && begins_utf8 bytes more
