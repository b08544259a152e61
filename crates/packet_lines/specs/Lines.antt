-- The lines of an input and the words of a line, as bytes.
use Rattle.std.specs.Prelude.{ℕ, List, [], ◌∷◌, ◌==◌, if◌then◌else◌, Option, Some, None, ◌≡◌, codes, refl}

-- one more byte at the front of the first part; where there is none, a part of that byte
abbrev pub onto_first : ℕ → List (List ℕ) → List (List ℕ)
onto_first b [] = (b ∷ []) ∷ []
onto_first b (part ∷ parts) = (b ∷ part) ∷ parts

-- A line feed ends a line. Bytes behind the last one are a line too.
abbrev pub lines : List ℕ → List (List ℕ)
lines [] = []
lines (b ∷ bytes) = if b == 10 then [] ∷ lines bytes else onto_first b (lines bytes)

-- One blank parts two words: two blanks beside each other have a word of no bytes between them.
abbrev pub words : List ℕ → List (List ℕ)
words [] = [] ∷ []
words (b ∷ bytes) = if b == 32 then [] ∷ words bytes else onto_first b (words bytes)

-- the words behind the first blank, none where there is no blank
abbrev pub words_behind : Option (List ℕ) → List (List ℕ)
words_behind None = []
words_behind (Some bytes) = words bytes

-- examples
no_line : lines [] ≡ []
no_line = refl

last_is_open : lines (0x61 ∷ 10 ∷ 0x62 ∷ []) ≡ (0x61 ∷ []) ∷ (0x62 ∷ []) ∷ []
last_is_open = refl

last_is_ended : lines (10 ∷ 0x61 ∷ 13 ∷ 10 ∷ []) ≡ [] ∷ (0x61 ∷ 13 ∷ []) ∷ []
last_is_ended = refl

two_blanks : words (codes "a  b") ≡ codes "a" ∷ [] ∷ codes "b" ∷ []
two_blanks = refl

no_word : words [] ≡ [] ∷ []
no_word = refl
