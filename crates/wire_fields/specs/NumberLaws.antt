-- Laws of the numbers of one, two, four and eight bytes: what is read was spelled so, and what is spelled is read again.
use Rattle.std.proofs.Common.{◌≡◌, ℕ, ◌-◌, ◌^◌, ◌<◌, ◌≤◌, false, ltb, List, [], ◌∷◌, ◌++◌, length, take, drop, replicate, Ok, Err, refl, sym, ap, subst, ◌∙◌, arith, inl, inr}
use Rattle.std.specs.Int.{Width, w16, w32, w64, byte_len, from_be_bytes, to_be_bytes}
use Rattle.std.proofs.lemmas.Bool.{cases_lt, ltb-false, le-ltb, lt-ltb}
use Rattle.std.proofs.lemmas.List.{take_at, drop_at, drop_all, take-append-drop, take-append-le, drop-append-le, length-append, length-take, length-replicate}
use Rattle.std.proofs.lemmas.Nat.{be_bytes_2, be_bytes_4, be_bytes_8, from_be_bytes-to_be_bytes_2, from_be_bytes-to_be_bytes_4, from_be_bytes-to_be_bytes_8}
use Rattle.wire_fields.specs.declared.cut.Cut.TheVariants.{Short, Bad}
use Rattle.wire_fields.specs.Spelled.{spelled_u8, spelled_u16, spelled_u32, spelled_u64}
use Rattle.wire_fields.specs.Reading.{u8_at, number_at, u16_at, u32_at, u64_at, AreBytes, GoesOn}
use Rattle.wire_fields.specs.Places.{are_bytes_drop, are_bytes_take, are_bytes_rest, are_bytes_replicate, guard_ok, Took}

-- what the laws need of a width
pub record IsWide (w : Width) (limit : ℕ) : Type 0 where
  pub len : (n : ℕ) → length (to_be_bytes w n) ≡ byte_len w
  pub back : (bytes : List ℕ) → length bytes ≡ byte_len w → AreBytes bytes → to_be_bytes w (from_be_bytes w bytes) ≡ bytes
  pub again : (n : ℕ) → n < limit → from_be_bytes w (to_be_bytes w n) ≡ n
  pub below : (bytes : List ℕ) → AreBytes bytes → from_be_bytes w bytes < limit

pub wide16 : IsWide w16 (2 ^ 16)
wide16 = record {
  len = λ n. refl;
  back = λ bytes len fits. be_bytes_2 bytes _ len fits refl;
  again = λ n lt. from_be_bytes-to_be_bytes_2 n lt;
  below = λ bytes fits. omega (arith, fits 0, fits 1);
}

pub wide32 : IsWide w32 (2 ^ 32)
wide32 = record {
  len = λ n. refl;
  back = λ bytes len fits. be_bytes_4 bytes _ len fits refl;
  again = λ n lt. from_be_bytes-to_be_bytes_4 n lt;
  below = λ bytes fits. omega (arith, fits 0, fits 1, fits 2, fits 3);
}

pub wide64 : IsWide w64 (2 ^ 64)
wide64 = record {
  len = λ n. refl;
  back = λ bytes len fits. be_bytes_8 bytes _ len fits refl;
  again = λ n lt. from_be_bytes-to_be_bytes_8 n lt;
  below = λ bytes fits. omega (arith, fits 0, fits 1, fits 2, fits 3, fits 4, fits 5, fits 6, fits 7);
}

pub number_takes : (w : Width) (limit : ℕ) (wide : IsWide w limit) (bytes : List ℕ) (x : ℕ × List ℕ) → AreBytes bytes → number_at w bytes ≡ Ok x → Took (x.0 < limit) bytes (to_be_bytes w x.0) x.1
number_takes w limit wide bytes x fits e =
    let front : List ℕ = take (byte_len w) bytes in
    let g = guard_ok (ltb (length bytes) (byte_len w)) Short (from_be_bytes w front, drop (byte_len w) bytes) x e in
    let long : byte_len w ≤ length bytes = ltb-false _ _ g.0 in
    let back : to_be_bytes w (from_be_bytes w front) ≡ front = wide.back front (omega (arith, length-take (byte_len w) bytes)) (are_bytes_take (byte_len w) bytes fits) in
    subst (λ (y : ℕ × List ℕ). Took (y.0 < limit) bytes (to_be_bytes w y.0) y.1) g.1 (record {
      parts = sym (take-append-drop (byte_len w) bytes) ∙ ap (λ (t : List ℕ). t ++ drop (byte_len w) bytes) (sym back);
      in_range = wide.below front (are_bytes_take (byte_len w) bytes fits);
      behind = are_bytes_drop (byte_len w) bytes fits;
    })

pub number_again : (w : Width) (limit : ℕ) (wide : IsWide w limit) (n : ℕ) (rest : List ℕ) → n < limit → number_at w (to_be_bytes w n ++ rest) ≡ Ok (n, rest)
number_again w limit wide n rest lt =
    let len = wide.len n in
    let long : ltb (length (to_be_bytes w n ++ rest)) (byte_len w) ≡ false = le-ltb _ _ (omega (arith, length-append (to_be_bytes w n) rest)) in
    rw (long, take_at (to_be_bytes w n) rest (byte_len w) len, drop_at (to_be_bytes w n) rest (byte_len w) len, wide.again n lt) refl

-- a number that is cut short goes on with noughts
pub number_goes_on : (w : Width) (bytes : List ℕ) → number_at w bytes ≡ Err Short → GoesOn (number_at w) bytes 0
number_goes_on w bytes e =
    let fill : List ℕ = replicate (byte_len w - length bytes) 0 in
    elim (cases_lt (length bytes) (byte_len w)) [
      | inl lt ↦
          let size : length (bytes ++ fill) ≡ byte_len w = omega (arith, length-append bytes fill, length-replicate {A = ℕ} (byte_len w - length bytes) 0) in
          let long : ltb (length (bytes ++ fill)) (byte_len w) ≡ false = le-ltb _ _ (omega arith) in
          let none : drop (byte_len w) (bytes ++ fill) ≡ [] = drop_all (byte_len w) (bytes ++ fill) (omega arith) in
          (fill, are_bytes_replicate (byte_len w - length bytes) 0 (omega arith), (from_be_bytes w (take (byte_len w) (bytes ++ fill)), rw (long, none) refl))
      | inr le ↦
          let is : number_at w bytes ≡ Ok (from_be_bytes w (take (byte_len w) bytes), drop (byte_len w) bytes) = rw (le-ltb (length bytes) (byte_len w) le) refl in
          absurd (let bad = sym is ∙ e in cc)
    ]

pub number_never_bad : (w : Width) (bytes : List ℕ) → number_at w bytes ≡ Err Bad → ⊥
number_never_bad w bytes e =
    elim (cases_lt (length bytes) (byte_len w)) [
      | inl lt ↦
          let is : number_at w bytes ≡ Err Short = rw (lt-ltb (length bytes) (byte_len w) lt) refl in
          let bad = sym is ∙ e in cc
      | inr le ↦
          let is : number_at w bytes ≡ Ok (from_be_bytes w (take (byte_len w) bytes), drop (byte_len w) bytes) = rw (le-ltb (length bytes) (byte_len w) le) refl in
          let bad = sym is ∙ e in cc
    ]

-- more behind what was read is left behind it
pub number_stays : (w : Width) (bytes more : List ℕ) (x : ℕ × List ℕ) → number_at w bytes ≡ Ok x → number_at w (bytes ++ more) ≡ Ok (x.0, x.1 ++ more)
number_stays w bytes more x e =
    let g = guard_ok (ltb (length bytes) (byte_len w)) Short (from_be_bytes w (take (byte_len w) bytes), drop (byte_len w) bytes) x e in
    let long : byte_len w ≤ length bytes = ltb-false _ _ g.0 in
    let longer : ltb (length (bytes ++ more)) (byte_len w) ≡ false = le-ltb _ _ (omega (arith, length-append bytes more)) in
    let read : number_at w (bytes ++ more) ≡ Ok (from_be_bytes w (take (byte_len w) bytes), drop (byte_len w) bytes ++ more) =
    rw (longer, take-append-le (byte_len w) bytes more long, drop-append-le (byte_len w) bytes more long) refl in
    read ∙ ap (λ (y : ℕ × List ℕ). Ok (y.0, y.1 ++ more)) g.1

-- ---- by name

pub u8_again : (n : ℕ) (rest : List ℕ) → u8_at (spelled_u8 n ++ rest) ≡ Ok (n, rest)
u8_again n rest = refl

pub u16_again : (n : ℕ) (rest : List ℕ) → n < 2 ^ 16 → u16_at (spelled_u16 n ++ rest) ≡ Ok (n, rest)
u16_again n rest lt = number_again w16 (2 ^ 16) wide16 n rest lt

pub u32_again : (n : ℕ) (rest : List ℕ) → n < 2 ^ 32 → u32_at (spelled_u32 n ++ rest) ≡ Ok (n, rest)
u32_again n rest lt = number_again w32 (2 ^ 32) wide32 n rest lt

pub u64_again : (n : ℕ) (rest : List ℕ) → n < 2 ^ 64 → u64_at (spelled_u64 n ++ rest) ≡ Ok (n, rest)
u64_again n rest lt = number_again w64 (2 ^ 64) wide64 n rest lt

pub u8_takes : (bytes : List ℕ) (x : ℕ × List ℕ) → AreBytes bytes → u8_at bytes ≡ Ok x → Took (x.0 < 2 ^ 8) bytes (spelled_u8 x.0) x.1
u8_takes [] x fits e = absurd cc
u8_takes (b ∷ bytes) x fits e =
    let is : (b, bytes) ≡ x = cc in
    subst (λ (y : ℕ × List ℕ). Took (y.0 < 2 ^ 8) (b ∷ bytes) (spelled_u8 y.0) y.1) is (record { parts = refl; in_range = fits 0; behind = are_bytes_rest b bytes fits })

pub u16_takes : (bytes : List ℕ) (x : ℕ × List ℕ) → AreBytes bytes → u16_at bytes ≡ Ok x → Took (x.0 < 2 ^ 16) bytes (spelled_u16 x.0) x.1
u16_takes = number_takes w16 (2 ^ 16) wide16

pub u32_takes : (bytes : List ℕ) (x : ℕ × List ℕ) → AreBytes bytes → u32_at bytes ≡ Ok x → Took (x.0 < 2 ^ 32) bytes (spelled_u32 x.0) x.1
u32_takes = number_takes w32 (2 ^ 32) wide32

pub u64_takes : (bytes : List ℕ) (x : ℕ × List ℕ) → AreBytes bytes → u64_at bytes ≡ Ok x → Took (x.0 < 2 ^ 64) bytes (spelled_u64 x.0) x.1
u64_takes = number_takes w64 (2 ^ 64) wide64

pub u8_goes_on : (bytes : List ℕ) → u8_at bytes ≡ Err Short → GoesOn u8_at bytes 0
u8_goes_on [] e = (0 ∷ [], λ i. are_bytes_replicate 1 0 (omega arith) i, (0, refl))
u8_goes_on (b ∷ bytes) e = absurd cc

pub u8_never_bad : (bytes : List ℕ) → u8_at bytes ≡ Err Bad → ⊥
u8_never_bad [] e = cc
u8_never_bad (b ∷ bytes) e = cc

pub u8_stays : (bytes more : List ℕ) (x : ℕ × List ℕ) → u8_at bytes ≡ Ok x → u8_at (bytes ++ more) ≡ Ok (x.0, x.1 ++ more)
u8_stays [] more x e = absurd cc
u8_stays (b ∷ bytes) more x e = let is : (b, bytes) ≡ x = cc in ap (λ (y : ℕ × List ℕ). Ok (y.0, y.1 ++ more)) is

pub u16_goes_on : (bytes : List ℕ) → u16_at bytes ≡ Err Short → GoesOn u16_at bytes 0
u16_goes_on = number_goes_on w16

pub u16_never_bad : (bytes : List ℕ) → u16_at bytes ≡ Err Bad → ⊥
u16_never_bad = number_never_bad w16

pub u16_stays : (bytes more : List ℕ) (x : ℕ × List ℕ) → u16_at bytes ≡ Ok x → u16_at (bytes ++ more) ≡ Ok (x.0, x.1 ++ more)
u16_stays = number_stays w16

pub u32_goes_on : (bytes : List ℕ) → u32_at bytes ≡ Err Short → GoesOn u32_at bytes 0
u32_goes_on = number_goes_on w32

pub u32_never_bad : (bytes : List ℕ) → u32_at bytes ≡ Err Bad → ⊥
u32_never_bad = number_never_bad w32

pub u32_stays : (bytes more : List ℕ) (x : ℕ × List ℕ) → u32_at bytes ≡ Ok x → u32_at (bytes ++ more) ≡ Ok (x.0, x.1 ++ more)
u32_stays = number_stays w32

pub u64_goes_on : (bytes : List ℕ) → u64_at bytes ≡ Err Short → GoesOn u64_at bytes 0
u64_goes_on = number_goes_on w64

pub u64_never_bad : (bytes : List ℕ) → u64_at bytes ≡ Err Bad → ⊥
u64_never_bad = number_never_bad w64

pub u64_stays : (bytes more : List ℕ) (x : ℕ × List ℕ) → u64_at bytes ≡ Ok x → u64_at (bytes ++ more) ≡ Ok (x.0, x.1 ++ more)
u64_stays = number_stays w64
