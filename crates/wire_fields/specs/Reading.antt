-- Reading a field at the front of bytes: its value and the bytes behind it.
use Rattle.std.specs.Prelude.{ℕ, zero, suc, ◌+◌, ◌-◌, ◌*◌, ◌<◌, ◌≤◌, ◌≡◌, List, [], ◌∷◌, ◌++◌, length, take, drop, slice_index, Result, Ok, Err, nat_lt, nat_le, ◌==◌, if◌then◌else◌}
use Rattle.std.specs.Int.{Width, w16, w32, w64, byte_len, from_be_bytes}
use Rattle.wire_fields.specs.declared.cut.Cut.{Cut}
use Rattle.wire_fields.specs.declared.cut.Cut.TheVariants.{Short, Bad}
use Rattle.wire_fields.specs.Text.{is_text, begins_text}

infixl 10 ◌>>=◌
abbrev pub ◌>>=◌ : {A B : Type 0} → Result A Cut → (A → Result B Cut) → Result B Cut
(Ok x) >>= f = f x
(Err e) >>= f = Err e

abbrev pub u8_at : List ℕ → Result (ℕ × List ℕ) Cut
u8_at [] = Err Short
u8_at (b ∷ bytes) = Ok (b, bytes)

abbrev pub number_at : Width → List ℕ → Result (ℕ × List ℕ) Cut
number_at w bytes =
    if nat_lt (length bytes) (byte_len w)
    then Err Short
    else Ok (from_be_bytes w (take (byte_len w) bytes), drop (byte_len w) bytes)

abbrev pub u16_at : List ℕ → Result (ℕ × List ℕ) Cut
u16_at bytes = number_at w16 bytes

abbrev pub u32_at : List ℕ → Result (ℕ × List ℕ) Cut
u32_at bytes = number_at w32 bytes

abbrev pub u64_at : List ℕ → Result (ℕ × List ℕ) Cut
u64_at bytes = number_at w64 bytes

-- seven low bits before the number that the bytes behind them stand for, which isn't 0 in the shortest spelling
abbrev pub raised : ℕ → ℕ × List ℕ → Result (ℕ × List ℕ) Cut
raised low high = if high.0 == 0 then Err Bad else Ok (low + 128 * high.0, high.1)

-- a variable byte integer in at most so many bytes
unfoldable pub var_within : ℕ → List ℕ → Result (ℕ × List ℕ) Cut
var_within zero bytes = Err Bad
var_within (suc places) [] = Err Short
var_within (suc places) (b ∷ bytes) =
    if nat_lt b 128 then Ok (b, bytes) else (var_within places bytes >>= λ high. raised (b - 128) high)

abbrev pub var_at : List ℕ → Result (ℕ × List ℕ) Cut
var_at bytes = var_within 4 bytes

-- so many bytes
abbrev pub bytes_of : ℕ → List ℕ → Result (List ℕ × List ℕ) Cut
bytes_of n bytes = if nat_le n (length bytes) then Ok (take n bytes, drop n bytes) else Err Short

-- a length in two bytes, and then what is read of so many bytes
abbrev pub sized_at : (ℕ → List ℕ → Result (List ℕ × List ℕ) Cut) → List ℕ → Result (List ℕ × List ℕ) Cut
sized_at read bytes = u16_at bytes >>= λ n. read n.0 n.1

unfoldable pub bin_at : List ℕ → Result (List ℕ × List ℕ) Cut
bin_at bytes = sized_at bytes_of bytes

-- a text of so many bytes
abbrev pub text_of : ℕ → List ℕ → Result (List ℕ × List ℕ) Cut
text_of n bytes =
    if nat_le n (length bytes)
    then (if is_text (take n bytes) then Ok (take n bytes, drop n bytes) else Err Bad)
    else (if begins_text bytes (n - length bytes) then Err Short else Err Bad)

unfoldable pub text_at : List ℕ → Result (List ℕ × List ℕ) Cut
text_at bytes = sized_at text_of bytes

-- What a call gave that reads at the place `old`: what reading there gives, with `new` behind the field; on a
-- refusal the place stays.
abbrev pub Takes : {X Y : Type 0} → (X → Y) → Result X Cut → Result (Y × List ℕ) Cut → List ℕ → ℕ → ℕ → Type 0
Takes view (Ok x) read bytes old new = (read ≡ Ok (view x, drop new bytes)) × (old ≤ new) × (new ≤ length bytes)
Takes view (Err e) read bytes old new = (read ≡ Err e) × (new ≡ old)

-- from one place to another the bytes are these
abbrev pub Stands : List ℕ → List ℕ → ℕ → ℕ → Type 0
Stands field bytes old new = (drop old bytes ≡ field ++ drop new bytes) × (new ≡ old + length field)

-- each is below 256
abbrev pub AreBytes : List ℕ → Type 0
AreBytes bytes = (i : ℕ) → slice_index bytes i < 256

-- with some bytes behind them, a field is read at the place that ends where they do
abbrev pub GoesOn : {Y : Type 0} → (List ℕ → Result (Y × List ℕ) Cut) → List ℕ → ℕ → Type 0
GoesOn {Y} read bytes at =
    (more : List ℕ) × AreBytes more × ((x : Y) × (read (drop at (bytes ++ more)) ≡ Ok (x, [])))

-- whatever stands behind them, none is read at the place
abbrev pub IsRefused : {Y : Type 0} → (List ℕ → Result (Y × List ℕ) Cut) → List ℕ → ℕ → Type 0
IsRefused read bytes at = (more : List ℕ) → read (drop at (bytes ++ more)) ≡ Err Bad

-- what a function on the bytes alone gave, seen by a view, is what reading them gives
abbrev pub Gives : {X Y : Type 0} → (X → Y) → Result X Cut → Result Y Cut → Type 0
Gives view (Ok x) read = read ≡ Ok (view x)
Gives view (Err e) read = read ≡ Err e
