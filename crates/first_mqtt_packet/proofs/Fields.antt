-- Numbers of two and four bytes, and a list cut into its parts.
use Rattle.std.proofs.Common.{◌≡◌, ℕ, ◌+◌, ◌^◌, ◌<◌, ◌≤◌, List, ◌++◌, length, get_or, take, drop, refl, sym, ap, ◌∙◌, arith, inl, inr}
use Rattle.std.specs.Int.{w16, w32, to_be_bytes}
use Rattle.std.proofs.lemmas.Bool.{cases_lt}
use Rattle.std.proofs.lemmas.List.{take-append-drop, drop-drop, length-take, length-drop, get_or-drop, get_or-take, get_or_past}
use Rattle.std.proofs.lemmas.Nat.{be_bytes_2, be_bytes_4}
use Rattle.first_mqtt_packet.specs.Reading.{two_at, four_at}

abbrev pub IsBytes : List ℕ → Type 0
IsBytes bytes = (i : ℕ) → get_or bytes i 0 < 256

pub IsBytes-drop : (n : ℕ) (bytes : List ℕ) → IsBytes bytes → IsBytes (drop n bytes)
IsBytes-drop n bytes fits i = rw get_or-drop (fits (n + i))

pub IsBytes-take : (n : ℕ) (bytes : List ℕ) → IsBytes bytes → IsBytes (take n bytes)
IsBytes-take n bytes fits i =
    elim (cases_lt i n) [
      | inl lt ↦ rw (get_or-take n bytes i 0 lt) (fits i)
      | inr le ↦ rw (get_or_past (take n bytes) i 0 (omega (arith, length-take n bytes))) (omega arith)
    ]

-- a part, and what follows it
pub cut : (m n : ℕ) (xs : List ℕ) → drop m xs ≡ take n (drop m xs) ++ drop (m + n) xs
cut m n xs = sym (take-append-drop n (drop m xs)) ∙ ap (λ (t : List ℕ). take n (drop m xs) ++ t) (drop-drop n m xs)

pub length_cut : (m n : ℕ) (xs : List ℕ) → m + n ≤ length xs → length (take n (drop m xs)) ≡ n
length_cut m n xs long = omega (arith, length-take n (drop m xs), length-drop m xs)

pub two_back : (xs : List ℕ) (at : ℕ) → IsBytes xs → at + 2 ≤ length xs → to_be_bytes w16 (two_at xs at) ≡ take 2 (drop at xs)
two_back xs at fits long = be_bytes_2 (take 2 (drop at xs)) (two_at xs at) (length_cut at 2 xs long) (IsBytes-take 2 (drop at xs) (IsBytes-drop at xs fits)) refl

pub four_back : (xs : List ℕ) (at : ℕ) → IsBytes xs → at + 4 ≤ length xs → to_be_bytes w32 (four_at xs at) ≡ take 4 (drop at xs)
four_back xs at fits long = be_bytes_4 (take 4 (drop at xs)) (four_at xs at) (length_cut at 4 xs long) (IsBytes-take 4 (drop at xs) (IsBytes-drop at xs fits)) refl

pub two_below : (xs : List ℕ) (at : ℕ) → IsBytes xs → two_at xs at < 2 ^ 16
two_below xs at fits =
    let part : IsBytes (take 2 (drop at xs)) = IsBytes-take 2 (drop at xs) (IsBytes-drop at xs fits) in
    omega (arith, part 0, part 1)

pub four_below : (xs : List ℕ) (at : ℕ) → IsBytes xs → four_at xs at < 2 ^ 32
four_below xs at fits =
    let part : IsBytes (take 4 (drop at xs)) = IsBytes-take 4 (drop at xs) (IsBytes-drop at xs fits) in
    omega (arith, part 0, part 1, part 2, part 3)
