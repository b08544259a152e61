-- A list cut at each place of one number, as a topic is cut into levels at `/`.
use Rattle.std.specs.Prelude.{ℕ, List, [], ◌∷◌, ◌++◌, ◌==◌, if◌then◌else◌, Option, Some, None}

-- the list with one more element at the front of its first piece
abbrev pub onto_first : ℕ → List (List ℕ) → List (List ℕ)
onto_first x [] = (x ∷ []) ∷ []
onto_first x (p ∷ ps) = (x ∷ p) ∷ ps

-- the pieces of a list between the places of the separator: one more than there are such places
abbrev pub pieces : ℕ → List ℕ → List (List ℕ)
pieces separator [] = [] ∷ []
pieces separator (x ∷ xs) = if x == separator then [] ∷ pieces separator xs else onto_first x (pieces separator xs)

-- the pieces of what follows the first separator, none where there was none
abbrev pub pieces_after : ℕ → Option (List ℕ) → List (List ℕ)
pieces_after separator None = []
pieces_after separator (Some rest) = pieces separator rest

-- a piece, and the others behind a separator each
abbrev pub joined_after : ℕ → List ℕ → List (List ℕ) → List ℕ
joined_after separator p [] = p
joined_after separator p (q ∷ ps) = p ++ separator ∷ joined_after separator q ps

-- pieces joined again
abbrev pub joined : ℕ → List (List ℕ) → List ℕ
joined separator [] = []
joined separator (p ∷ ps) = joined_after separator p ps

-- the levels of a topic name or a topic filter, which `/` parts (MQTT 4.7.1.1)
abbrev pub levels_of : List ℕ → List (List ℕ)
levels_of text = pieces 47 text

-- the text of levels
abbrev pub text_of_levels : List (List ℕ) → List ℕ
text_of_levels levels = joined 47 levels
