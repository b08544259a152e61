-- Which texts are those of a number.
use Rattle.std.proofs.Common.{◌≡◌, ◌≢◌, ℕ, zero, suc, ◌<◌, ◌^◌, List, length, get_or, Result, Ok, sym, ap, ◌∙◌, subst, arith}
use Rattle.std.specs.Fmt.{decimal}
use Rattle.std.specs.Result.{OkIff}
use Rattle.std.specs.Str.Parse.{AllDigits, digits_value, ParsesUnsigned}
use Rattle.std.proofs.lemmas.Str.Parse.{IsNumeralModel, numerals_by_value, tells_digits, not_in_digits, parse_plain}
use Rattle.std.proofs.lemmas.Fmt.{decimal-digits_value, digits_decimal, decimal_nonempty, decimal_digit, first_decimal}

digits_model : IsNumeralModel (AllDigits 10) (digits_value 10)
digits_model = numerals_by_value _ tells_digits

-- no plus sign in front, and no 0 in front of more
abbrev pub BeginsPlainly : List ℕ → Type 0
BeginsPlainly text = (get_or text 0 0 ≢ 43) × (get_or text 0 0 ≡ 48 → length text ≡ 1)

no_sign : (n : ℕ) → n < 2 ^ 64 → get_or (decimal n) 0 0 ≢ 43
no_sign n small =
    not_in_digits digits_model (decimal n) 43 (digits_decimal digits_model n small) (λ range. omega (arith, range)) 0 (decimal_nonempty n small)

no_leading_zero : (n : ℕ) → n < 2 ^ 64 → get_or (decimal n) 0 0 ≡ 48 → length (decimal n) ≡ 1
no_leading_zero zero small first = ap length (decimal_digit 0 (omega arith))
no_leading_zero (suc n) small first =
    let h = first_decimal (suc n) (omega arith) small in
    absurd (omega (arith, h, first))

-- the text of a number
pub begins_plainly : (n : ℕ) (text : List ℕ) → n < 2 ^ 64 → text ≡ decimal n → BeginsPlainly text
begins_plainly n text small e = subst BeginsPlainly (sym e) (no_sign n small, no_leading_zero n small)

-- the number of a text
pub is_text_of : {E : Type 0} (text : List ℕ) (r : Result ℕ E) (number : ℕ) → ParsesUnsigned 64 10 text r → BeginsPlainly text → r ≡ Ok number → text ≡ decimal number
is_text_of {E = E} text r number h plain e =
    let known = parse_plain digits_model 64 text r h plain.0 in
    let there = subst (λ (q : Result ℕ E). OkIff q (AllDigits 10 text × (0 < length text) × (digits_value 10 text < 2 ^ 64)) (digits_value 10 text)) e known in
    sym (decimal-digits_value digits_model text there.0.0 there.0.1 plain.1 there.0.2) ∙ ap decimal (sym there.1)
