-- Which texts stand for bytes, and their digits one byte after another.
use Rattle.std.proofs.Common.{◌≡◌, ℕ, ◌+◌, ◌*◌, ◌/◌, ◌%◌, ◌<◌, ◌≤◌, false, List, [], ◌∷◌, ◌++◌, length, drop, get_or, slice_index, Option, None, Result, Ok, Err, is_some, refl, sym, ap, ◌∙◌, arith, append_assoc, ⊎_elim, nat_le}
use Rattle.std.proofs.lemmas.Bool.{cases_Bool, true≢false}
use Rattle.std.proofs.lemmas.List.{append-nil, at_drop_more, at_drop_all}
use Rattle.std.proofs.lemmas.List.Sums.{AllPass-from_list_all, list_all-from_AllPass}
use Rattle.std.specs.List.{list_all}
use Rattle.std.specs.Prelude.{◌&&◌, if◌then◌else◌}
use Rattle.std.specs.Result.{is_ok}
use Rattle.hex.specs.Hex.{decode_of, encode_with, is_hex_digit}
use Rattle.hex.specs.declared.error.FromHexError.{FromHexError}
use Rattle.hex.proofs.HexLemmas.{decode_of-digits, decode_of-ok}
use Rattle.first_world_terms.specs.Script.{hex_of, bytes_or_none}

some_if_ok : (r : Result (List ℕ) FromHexError) → is_some (bytes_or_none r) ≡ is_ok r
some_if_ok (Ok bytes) = refl
some_if_ok (Err e) = refl

refused : (s : List ℕ) (r : Result (List ℕ) FromHexError) → decode_of s ≡ r → list_all is_hex_digit s ≡ false → is_ok r ≡ false
refused s (Ok bytes) h bad =
    absurd (true≢false (sym (list_all-from_AllPass is_hex_digit s (decode_of-ok s bytes h).1) ∙ bad))
refused s (Err e) h bad = refl

-- an even number of characters decodes where each is a digit
ok_if_digits : (s : List ℕ) → length s % 2 ≡ 0 → is_ok (decode_of s) ≡ list_all is_hex_digit s
ok_if_digits s even =
    ⊎_elim
    (λ e. let r = decode_of-digits s even (AllPass-from_list_all is_hex_digit s e) in rw (r.1, e) refl)
    (λ e. refused s (decode_of s) refl e ∙ sym e)
    (cases_Bool (list_all is_hex_digit s))

of_length : (n : ℕ) (o : Option (List ℕ)) → 2 ≤ n → n ≤ 2097152 → (if nat_le 2 n && nat_le n (2 * 1048576) then o else None) ≡ o
of_length n o low high = grind arith

pub hex_of-even : (s : List ℕ) → length s % 2 ≡ 0 → 2 ≤ length s → length s ≤ 2097152 → is_some (hex_of s) ≡ list_all is_hex_digit s
hex_of-even s even low high =
    ap is_some (of_length (length s) (bytes_or_none (decode_of s)) low high) ∙ some_if_ok (decode_of s) ∙ ok_if_digits s even

digits_at : (t bytes : List ℕ) (i : ℕ) → i < length bytes
    → encode_with t (drop i bytes) ≡ slice_index t (get_or bytes i 0 / 16) ∷ slice_index t (get_or bytes i 0 % 16) ∷ encode_with t (drop (i + 1) bytes)
unfolding encode_with
digits_at t bytes i lt = at_drop_more (encode_with t) bytes i 0 lt

digits_at_end : (t bytes : List ℕ) (i : ℕ) → length bytes ≤ i → encode_with t (drop i bytes) ≡ []
unfolding encode_with
digits_at_end t bytes i le = at_drop_all (encode_with t) bytes i le

-- the two digits of a byte are put
pub encode_with_more : (t bytes whole before between after : List ℕ) (i : ℕ) → i < length bytes
    → between ≡ before ++ slice_index t (get_or bytes i 0 / 16) ∷ []
    → after ≡ between ++ slice_index t (get_or bytes i 0 % 16) ∷ []
    → before ++ encode_with t (drop i bytes) ≡ whole
    → after ++ encode_with t (drop (i + 1) bytes) ≡ whole
encode_with_more t bytes whole before between after i lt first second h =
    let e = ap (λ (ys : List ℕ). before ++ ys) (digits_at t bytes i lt) in
    rw (second, first) (simp append_assoc (sym e ∙ h))

-- nothing is left
pub encode_with_all : (t bytes whole before : List ℕ) (i : ℕ) → length bytes ≤ i
    → before ++ encode_with t (drop i bytes) ≡ whole → before ≡ whole
encode_with_all t bytes whole before i le h =
    sym (append-nil before) ∙ ap (λ (ys : List ℕ). before ++ ys) (sym (digits_at_end t bytes i le)) ∙ h

pub ruleset even_hex = (hex_of-even)
