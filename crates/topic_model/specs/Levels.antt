-- A text cut into levels at each `/`, and put together again (MQTT 4.7.1.1).
use Rattle.std.specs.Prelude.{ℕ, Bool, List, [], ◌∷◌, ◌++◌, ◌==◌, if◌then◌else◌}

-- one more element at the front of the first piece
abbrev pub onto_first : ℕ → List (List ℕ) → List (List ℕ)
onto_first x [] = (x ∷ []) ∷ []
onto_first x (p ∷ ps) = (x ∷ p) ∷ ps

-- the pieces of a list between the places of a separator: one more than there are such places
abbrev pub pieces : ℕ → List ℕ → List (List ℕ)
pieces separator [] = [] ∷ []
pieces separator (x ∷ xs) = if x == separator then [] ∷ pieces separator xs else onto_first x (pieces separator xs)

-- a piece, and the others behind a separator each
abbrev pub joined_after : ℕ → List ℕ → List (List ℕ) → List ℕ
joined_after separator p [] = p
joined_after separator p (q ∷ ps) = p ++ separator ∷ joined_after separator q ps

abbrev pub joined_by : ℕ → List (List ℕ) → List ℕ
joined_by separator [] = []
joined_by separator (p ∷ ps) = joined_after separator p ps

-- the levels of a topic name or a filter, and the text of levels
abbrev pub levels_of : List ℕ → List (List ℕ)
levels_of text = pieces 0x2F text

abbrev pub text_of_levels : List (List ℕ) → List ℕ
text_of_levels levels = joined_by 0x2F levels

-- a separator ends the first piece
abbrev pub parts : ℕ → ℕ → Bool
parts separator b = b == separator
