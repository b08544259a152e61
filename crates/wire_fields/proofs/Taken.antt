-- What a call took from a place, from what it saw there.
use Rattle.std.proofs.Common.{◌≡◌, ℕ, zero, suc, ◌+◌, ◌-◌, ◌*◌, ◌<◌, ◌≤◌, Bool, cond, List, ◌∷◌, length, get_or, take, drop, Result, Ok, Err, refl, sym, ap, ◌∙◌, arith, inl, inr}
use Rattle.std.specs.Int.{Width, byte_len, from_be_bytes}
use Rattle.std.proofs.lemmas.Bool.{cases_lt, le-ltb, eq-eqb, ne_eqb}
use Rattle.std.proofs.lemmas.List.{drop_more, drop_all, drop-drop, length-drop, length-append, take_rest, nil_from_length}
use Rattle.wire_fields.specs.declared.cut.Cut.{Cut}
use Rattle.wire_fields.specs.declared.cut.Cut.TheVariants.{Short, Bad}
use Rattle.wire_fields.specs.Reading.{◌>>=◌, u8_at, number_at, u16_at, sized_at, var_within, var_at, raised, AreBytes}
use Rattle.wire_fields.specs.VarLaws.{room, var_takes, first_is_last, first_goes_on, no_place, nothing_there}
use Rattle.wire_fields.specs.Spelled.{spelled_var}
use Rattle.wire_fields.specs.Places.{place_of_rest}

-- what a reader that took so many bytes from a place owes
abbrev pub TakenTo : {Y : Type 0} → Result (Y × List ℕ) Cut → Y → List ℕ → ℕ → ℕ → Type 0
TakenTo read value bytes old new = (read ≡ Ok (value, drop new bytes)) × (old ≤ new) × (new ≤ length bytes)

pub byte_taken : (bytes field : List ℕ) (at : ℕ) → field ≡ take 1 (drop at bytes) → at + 1 ≤ length bytes → TakenTo (u8_at (drop at bytes)) (get_or field 0 0) bytes at (at + 1)
byte_taken bytes field at is within =
    let here : drop at bytes ≡ get_or bytes at 0 ∷ drop (at + 1) bytes = drop_more bytes at 0 (omega arith) in
    let first : get_or field 0 0 ≡ get_or bytes at 0 = ap (λ (t : List ℕ). get_or t 0 0) (is ∙ ap (take 1) here) in
    (ap u8_at here ∙ ap (λ (n : ℕ). Ok (n, drop (at + 1) bytes)) (sym first), omega arith, within)

pub number_taken : (w : Width) (bytes field : List ℕ) (at n : ℕ) → field ≡ take (byte_len w) (drop at bytes) → at + byte_len w ≤ length bytes → n ≡ from_be_bytes w field
    → TakenTo (number_at w (drop at bytes)) n bytes at (at + byte_len w)
number_taken w bytes field at n is within value =
    let same : from_be_bytes w (take (byte_len w) (drop at bytes)) ≡ n = ap (from_be_bytes w) (sym is) ∙ sym value in
    let left : drop (byte_len w) (drop at bytes) ≡ drop (at + byte_len w) bytes = drop-drop (byte_len w) at bytes in
    let long = le-ltb (length (drop at bytes)) (byte_len w) (omega (arith, length-drop at bytes)) in (
      ap (λ (b : Bool). cond b (Err Short) (Ok (from_be_bytes w (take (byte_len w) (drop at bytes)), drop (byte_len w) (drop at bytes)))) long
          ∙ (λ i. Ok (same i, left i)),
      omega arith,
      within,
    )

-- ---- a variable byte integer

pub places_out : (places : ℕ) (bytes : List ℕ) → places ≡ 0 → var_within places bytes ≡ Err Bad
places_out places bytes e = ap (λ (p : ℕ). var_within p bytes) e ∙ no_place bytes

pub nothing_left : (places : ℕ) (bytes : List ℕ) → (places ≡ 0 → ⊥) → length bytes < 1 → var_within places bytes ≡ Err Short
nothing_left places bytes some none =
    let p : places ≡ suc (places - 1) = omega arith in
    (λ i. var_within (p i) (nil_from_length bytes (omega arith) i)) ∙ nothing_there (places - 1)

first_of : (bytes : List ℕ) → 1 ≤ length bytes → bytes ≡ get_or bytes 0 0 ∷ take (length bytes - 1) (drop 1 bytes)
first_of bytes some = drop_more bytes 0 0 (omega arith) ∙ ap (λ (t : List ℕ). get_or bytes 0 0 ∷ t) (sym (take_rest bytes 1))

-- of bytes with a first one, and one place more
module _ (places : ℕ) (bytes : List ℕ) (more : places ≡ 0 → ⊥) (some : 1 ≤ length bytes) where
  pub ends_here : (n : ℕ) → get_or bytes 0 0 < 128 → n ≡ get_or bytes 0 0 → var_within places bytes ≡ Ok (n, take (length bytes - 1) (drop 1 bytes))
  ends_here n low is =
      let p : places ≡ suc (places - 1) = omega arith in
      (λ i. var_within (p i) (first_of bytes some i))
      ∙ first_is_last (places - 1) (get_or bytes 0 0) (take (length bytes - 1) (drop 1 bytes)) low
      ∙ ap (λ (k : ℕ). Ok (k, take (length bytes - 1) (drop 1 bytes))) (sym is)

  pub goes_on : (r : Result (ℕ × List ℕ) Cut) → 128 ≤ get_or bytes 0 0 → var_within (places - 1) (take (length bytes - 1) (drop 1 bytes)) ≡ r
      → var_within places bytes ≡ (r >>= λ h. raised (get_or bytes 0 0 - 128) h)
  goes_on r high is =
      let p : places ≡ suc (places - 1) = omega arith in
      (λ i. var_within (p i) (first_of bytes some i))
      ∙ first_goes_on (places - 1) (get_or bytes 0 0) (take (length bytes - 1) (drop 1 bytes)) high
      ∙ ap (λ (q : Result (ℕ × List ℕ) Cut). q >>= λ h. raised (get_or bytes 0 0 - 128) h) is

  pub is_nought : (n : ℕ) (rest : List ℕ) → 128 ≤ get_or bytes 0 0 → var_within (places - 1) (take (length bytes - 1) (drop 1 bytes)) ≡ Ok (n, rest) → n ≡ 0
      → var_within places bytes ≡ Err Bad
  is_nought n rest high is nought =
      goes_on (Ok (n, rest)) high is ∙ ap (λ (b : Bool). cond b (Err Bad) (Ok (get_or bytes 0 0 - 128 + 128 * n, rest))) (eq-eqb n 0 nought)

  pub is_raised : (n value : ℕ) (rest : List ℕ) → 128 ≤ get_or bytes 0 0 → var_within (places - 1) (take (length bytes - 1) (drop 1 bytes)) ≡ Ok (n, rest) → (n ≡ 0 → ⊥)
      → value ≡ get_or bytes 0 0 - 128 + 128 * n → var_within places bytes ≡ Ok (value, rest)
  is_raised n value rest high is above e =
      goes_on (Ok (n, rest)) high is ∙ ap (λ (b : Bool). cond b (Err Bad) (Ok (get_or bytes 0 0 - 128 + 128 * n, rest))) (ne_eqb n 0 above)
      ∙ ap (λ (v : ℕ). Ok (v, rest)) (sym e)

pub room_of : (places : ℕ) → (places ≡ 0 → ⊥) → room places ≡ 128 * room (places - 1)
room_of zero some = absurd (some refl)
room_of (suc places) some = let e : suc places - 1 ≡ places = omega arith in ap (λ (k : ℕ). 128 * room k) (sym e)

pub room_some : (places : ℕ) → 0 < room places
room_some zero = omega arith
room_some (suc places) = let k : 0 < room places = room_some places in omega arith

pub room_most : (places : ℕ) → places ≤ 3 → room places ≤ 2097152
room_most zero le = omega arith
room_most (suc zero) le = omega arith
room_most (suc (suc zero)) le = omega arith
room_most (suc (suc (suc zero))) le = omega arith
room_most (suc (suc (suc (suc n)))) le = absurd (omega arith)

pub var_taken : (bytes behind : List ℕ) (at n : ℕ) → AreBytes (drop at bytes) → var_at (drop at bytes) ≡ Ok (n, behind)
    → TakenTo (var_at (drop at bytes)) n bytes at (length bytes - length behind)
var_taken bytes behind at n fits e =
    let took = var_takes (drop at bytes) (n, behind) fits e in
    let left : drop (length bytes - length behind) bytes ≡ behind = place_of_rest bytes (spelled_var n) behind at took.parts in
    let within : at ≤ length bytes = elim (cases_lt (length bytes) at) [
      | inl past ↦ absurd (let bad = sym (nothing_there 3) ∙ ap var_at (sym (drop_all at bytes (omega arith))) ∙ e in cc)
      | inr fits ↦ fits
    ] in (
      e ∙ ap (λ (r : List ℕ). Ok (n, r)) (sym left),
      omega (arith, ap length took.parts, length-append (spelled_var n) behind, length-drop at bytes),
      omega arith,
    )

-- ---- binary data and texts

module _ (read : ℕ → List ℕ → Result (List ℕ × List ℕ) Cut) (bytes : List ℕ) (at : ℕ) where
  pub size_refused : (cut : Cut) → u16_at (drop at bytes) ≡ Err cut → sized_at read (drop at bytes) ≡ Err cut
  size_refused cut e = ap (λ (r : Result (ℕ × List ℕ) Cut). r >>= λ n. read n.0 n.1) e

  pub body_refused : (behind n : ℕ) (cut : Cut) → u16_at (drop at bytes) ≡ Ok (n, drop behind bytes) → read n (take (length bytes - behind) (drop behind bytes)) ≡ Err cut
      → sized_at read (drop at bytes) ≡ Err cut
  body_refused behind n cut e refused =
      ap (λ (r : Result (ℕ × List ℕ) Cut). r >>= λ n. read n.0 n.1) e ∙ ap (read n) (sym (take_rest bytes behind)) ∙ refused

  pub body_taken : (behind n : ℕ) (field : List ℕ) → TakenTo (u16_at (drop at bytes)) n bytes at behind
      → let rest = take (length bytes - behind) (drop behind bytes) in read n rest ≡ Ok (field, drop n rest) → n ≤ length rest
      → TakenTo (sized_at read (drop at bytes)) field bytes at (behind + n)
  body_taken behind n field size taken within =
      let all : take (length bytes - behind) (drop behind bytes) ≡ drop behind bytes = take_rest bytes behind in
      let left : drop n (take (length bytes - behind) (drop behind bytes)) ≡ drop (behind + n) bytes = ap (drop n) all ∙ drop-drop n behind bytes in (
        ap (λ (r : Result (ℕ × List ℕ) Cut). r >>= λ n. read n.0 n.1) size.0 ∙ ap (read n) (sym all) ∙ taken ∙ ap (λ (r : List ℕ). Ok (field, r)) left,
        omega (arith, size.1),
        omega (arith, size.2, within, ap length all, length-drop behind bytes),
      )
