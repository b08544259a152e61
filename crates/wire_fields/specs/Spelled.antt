-- The one spelling of each field of which packets are made (MQTT 1.5).
use Rattle.std.specs.Prelude.{ℕ, zero, suc, ◌+◌, ◌/◌, ◌%◌, List, [], ◌∷◌, ◌++◌, length, nat_lt, if◌then◌else◌}
use Rattle.std.specs.Int.{w16, w32, w64, to_be_bytes}

-- a byte, and numbers of two, four and eight bytes, the highest byte first (MQTT 1.5.1 to 1.5.3)
abbrev pub spelled_u8 : ℕ → List ℕ
spelled_u8 n = n ∷ []

abbrev pub spelled_u16 : ℕ → List ℕ
spelled_u16 n = to_be_bytes w16 n

abbrev pub spelled_u32 : ℕ → List ℕ
spelled_u32 n = to_be_bytes w32 n

abbrev pub spelled_u64 : ℕ → List ℕ
spelled_u64 n = to_be_bytes w64 n

-- the lowest seven bits first, with bit 7 set in each byte but the last, in the fewest bytes, of which there are
-- at most `suc places`
abbrev pub spelled_within : ℕ → ℕ → List ℕ
spelled_within zero n = n ∷ []
spelled_within (suc places) n = if nat_lt n 128 then n ∷ [] else (n % 128 + 128) ∷ spelled_within places (n / 128)

-- a variable byte integer (MQTT 1.5.5)
abbrev pub spelled_var : ℕ → List ℕ
spelled_var n = spelled_within 3 n

-- the length in two bytes, and that many bytes (MQTT 1.5.6)
abbrev pub spelled_bin : List ℕ → List ℕ
spelled_bin bytes = spelled_u16 (length bytes) ++ bytes

-- a text is spelled as its bytes are (MQTT 1.5.4)
abbrev pub spelled_text : List ℕ → List ℕ
spelled_text text = spelled_bin text
