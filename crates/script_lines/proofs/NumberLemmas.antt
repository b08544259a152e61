-- The number of a text, digit by digit.
use Rattle.std.proofs.Common.{◌≡◌, ◌≢◌, ℕ, ◌+◌, ◌*◌, ◌-◌, ◌<◌, ◌≤◌, true, false, List, [], ◌∷◌, length, drop, get_or, Some, None, refl, ◌∙◌, arith}
use Rattle.std.proofs.lemmas.List.{at_drop_more, at_drop_all}
use Rattle.std.specs.Char.{is_ascii_digit, digit_value}
use Rattle.std.specs.Str.Parse.{digits_value_after}
use Rattle.first_world_terms.specs.Script.{connection_of}
use Rattle.script_lines.specs.Digits.{number_after}

-- further digits make no number smaller
grows : (n : ℕ) (text : List ℕ) → n ≤ digits_value_after 10 n text
grows n [] = omega arith
grows n (b ∷ bs) = let h = grows (n * 10 + digit_value b) bs in omega (arith, h)

pub number_after-large : (n : ℕ) (text : List ℕ) → 65535 < n → number_after n text ≡ None
number_after-large n text large = let h = grows n text in grind (arith, h)

digit_is : (b : ℕ) → is_ascii_digit b ≡ true → digit_value b ≡ b - 48
digit_is b h = grind arith

after_digit : (n b : ℕ) (bs : List ℕ) → is_ascii_digit b ≡ true → number_after n (b ∷ bs) ≡ number_after (n * 10 + (b - 48)) bs
after_digit n b bs h = rw (h, digit_is b h) refl

pub number_after-digit : (n i : ℕ) (text : List ℕ) → i < length text → is_ascii_digit (get_or text i 0) ≡ true
    → number_after n (drop i text) ≡ number_after (n * 10 + (get_or text i 0 - 48)) (drop (i + 1) text)
number_after-digit n i text lt h = at_drop_more (number_after n) text i 0 lt ∙ after_digit n (get_or text i 0) (drop (i + 1) text) h

after_other : (n b : ℕ) (bs : List ℕ) → is_ascii_digit b ≡ false → number_after n (b ∷ bs) ≡ None
after_other n b bs h = rw h refl

pub number_after-other : (n i : ℕ) (text : List ℕ) → i < length text → is_ascii_digit (get_or text i 0) ≡ false
    → number_after n (drop i text) ≡ None
number_after-other n i text lt h = at_drop_more (number_after n) text i 0 lt ∙ after_other n (get_or text i 0) (drop (i + 1) text) h

at_end : (n : ℕ) → n ≤ 65535 → number_after n [] ≡ Some n
at_end n h = grind arith

pub number_after-end : (n i : ℕ) (text : List ℕ) → length text ≤ i → n ≤ 65535 → number_after n (drop i text) ≡ Some n
number_after-end n i text le h = at_drop_all (number_after n) text i le ∙ at_end n h

-- a text with no leading zero is a connection where its digits are a number of two bytes
pub connection_of-digits : (text : List ℕ) → 0 < length text → (length text ≢ 1 → get_or text 0 0 ≢ 48) → connection_of text ≡ number_after 0 text
connection_of-digits text some first = grind arith

pub connection_of-leading : (text : List ℕ) → length text ≢ 1 → get_or text 0 0 ≡ 48 → connection_of text ≡ None
connection_of-leading text long first = grind arith

pub ruleset digit_steps = (number_after-large, number_after-digit, number_after-other, number_after-end)

pub ruleset connections = (connection_of-digits, connection_of-leading)
