-- The number of a word, digit by digit.
use Rattle.std.proofs.Common.{◌≡◌, ◌≢◌, ℕ, ◌+◌, ◌*◌, ◌-◌, ◌<◌, ◌≤◌, true, false, List, [], ◌∷◌, length, drop, get_or, Some, None, refl, ◌∙◌, arith}
use Rattle.std.proofs.lemmas.List.{at_drop_more, at_drop_all}
use Rattle.std.specs.Char.{is_ascii_digit, digit_value}
use Rattle.std.specs.Str.Parse.{digits_value_after}
use Rattle.packet_lines.specs.Command.{limit_of}
use Rattle.packet_lines.specs.Digits.{number_after}

-- further digits make no number smaller
grows : (n : ℕ) (word : List ℕ) → n ≤ digits_value_after 10 n word
grows n [] = omega arith
grows n (b ∷ bytes) = let h = grows (n * 10 + digit_value b) bytes in omega (arith, h)

pub number_after-large : (n : ℕ) (word : List ℕ) → 4294967295 < n → number_after n word ≡ None
number_after-large n word large = let h = grows n word in grind (arith, h)

digit_is : (b : ℕ) → is_ascii_digit b ≡ true → digit_value b ≡ b - 48
digit_is b h = grind arith

after_digit : (n b : ℕ) (bytes : List ℕ) → is_ascii_digit b ≡ true → number_after n (b ∷ bytes) ≡ number_after (n * 10 + (b - 48)) bytes
after_digit n b bytes h = rw (h, digit_is b h) refl

pub number_after-digit : (n i : ℕ) (word : List ℕ) → i < length word → is_ascii_digit (get_or word i 0) ≡ true
    → number_after n (drop i word) ≡ number_after (n * 10 + (get_or word i 0 - 48)) (drop (i + 1) word)
number_after-digit n i word lt h = at_drop_more (number_after n) word i 0 lt ∙ after_digit n (get_or word i 0) (drop (i + 1) word) h

after_other : (n b : ℕ) (bytes : List ℕ) → is_ascii_digit b ≡ false → number_after n (b ∷ bytes) ≡ None
after_other n b bytes h = rw h refl

pub number_after-other : (n i : ℕ) (word : List ℕ) → i < length word → is_ascii_digit (get_or word i 0) ≡ false
    → number_after n (drop i word) ≡ None
number_after-other n i word lt h = at_drop_more (number_after n) word i 0 lt ∙ after_other n (get_or word i 0) (drop (i + 1) word) h

at_end : (n : ℕ) → n ≤ 4294967295 → number_after n [] ≡ Some n
at_end n h = grind arith

pub number_after-end : (n i : ℕ) (word : List ℕ) → length word ≤ i → n ≤ 4294967295 → number_after n (drop i word) ≡ Some n
number_after-end n i word le h = at_drop_all (number_after n) word i le ∙ at_end n h

-- a word without a leading zero is a limit where its digits are a number of four bytes
pub limit_of-digits : (word : List ℕ) → 0 < length word → (length word ≢ 1 → get_or word 0 0 ≢ 48) → limit_of word ≡ number_after 0 word
limit_of-digits word some first = grind arith

pub limit_of-leading : (word : List ℕ) → length word ≢ 1 → get_or word 0 0 ≡ 48 → limit_of word ≡ None
limit_of-leading word long first = grind arith

pub ruleset digit_steps = (number_after-large, number_after-digit, number_after-other, number_after-end)

pub ruleset limits = (limit_of-digits, limit_of-leading)
