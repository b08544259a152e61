-- How the levels of a text come from its first separator, that they join to the text again, and how many they are.
use Rattle.std.proofs.Common.{◌≡◌, ℕ, suc, ◌+◌, ◌<◌, Bool, true, false, not, cond, eqb, List, [], ◌∷◌, length, take}
use Rattle.std.proofs.Common.{drop, refl, sym, ap, ◌∙◌, arith, one-add, add-one}
use Rattle.std.specs.Prelude.{count_by}
use Rattle.std.specs.List.{position_or_len, before_first, after_first}
use Rattle.std.proofs.lemmas.Bool.{eqb-true, true≢false}
use Rattle.std.proofs.lemmas.List.Sums.{sum_by-cons}
use Rattle.topic_model.specs.Levels.{pieces, onto_first, joined_by, levels_of, text_of_levels}
use Rattle.topic_model.specs.Matching.{is_last}
use Rattle.topic_model.specs.Levels.{parts}

-- ---- the first separator

-- one more element in front moves the first separator by one
further : (separator x : ℕ) (xs : List ℕ) (n : ℕ) (ps : List (List ℕ)) →
    ps ≡ take n xs ∷ pieces separator (drop (n + 1) xs) →
    onto_first x ps ≡ take (1 + n) (x ∷ xs) ∷ pieces separator (drop (1 + n + 1) (x ∷ xs))
further separator x xs n ps cut = rw (cut, one-add, add-one, add-one) refl

-- what is in front of the first separator is the first piece, and what is behind it has the others
pub pieces_at_first : (separator : ℕ) (xs : List ℕ) → position_or_len (parts separator) xs < length xs →
    pieces separator xs ≡ before_first (parts separator) xs ∷ pieces separator (after_first (parts separator) xs)
pieces_at_first separator [] within = absurd (omega arith)
pieces_at_first separator (x ∷ xs) within = by (eqb x separator) within (pieces_at_first separator xs)
  where
    by : (b : Bool) → cond (not b) (1 + position_or_len (parts separator) xs) 0 < suc (length xs) →
        (position_or_len (parts separator) xs < length xs →
        pieces separator xs ≡ before_first (parts separator) xs
        ∷ pieces separator (after_first (parts separator) xs)) →
        cond b ([] ∷ pieces separator xs) (onto_first x (pieces separator xs))
        ≡ take (cond (not b) (1 + position_or_len (parts separator) xs) 0) (x ∷ xs)
        ∷ pieces separator (drop (cond (not b) (1 + position_or_len (parts separator) xs) 0 + 1) (x ∷ xs))
    by true within rest = refl
    by false within rest = further separator x xs (position_or_len (parts separator) xs) (pieces separator xs)
        (rest (omega arith))

-- a list without the separator is one piece
pub pieces_whole : (separator : ℕ) (xs : List ℕ) → position_or_len (parts separator) xs ≡ length xs →
    pieces separator xs ≡ xs ∷ []
pieces_whole separator [] whole = refl
pieces_whole separator (x ∷ xs) whole = by (eqb x separator) whole (pieces_whole separator xs)
  where
    by : (b : Bool) → cond (not b) (1 + position_or_len (parts separator) xs) 0 ≡ suc (length xs) →
        (position_or_len (parts separator) xs ≡ length xs → pieces separator xs ≡ xs ∷ []) →
        cond b ([] ∷ pieces separator xs) (onto_first x (pieces separator xs)) ≡ (x ∷ xs) ∷ []
    by true whole rest = absurd (omega arith)
    by false whole rest = ap (onto_first x) (rest (omega arith))

-- ---- joining

-- one more element at the front of the first piece is one more at the front of the whole
joined-onto_first : (separator x : ℕ) (ps : List (List ℕ)) →
    joined_by separator (onto_first x ps) ≡ x ∷ joined_by separator ps
joined-onto_first separator x [] = refl
joined-onto_first separator x (p ∷ []) = refl
joined-onto_first separator x (p ∷ (q ∷ ps)) = refl

-- an empty piece before others puts a separator at the front
joined-empty : (separator : ℕ) (ps : List (List ℕ)) → is_last ps ≡ false →
    joined_by separator ([] ∷ ps) ≡ separator ∷ joined_by separator ps
joined-empty separator [] some = absurd (true≢false some)
joined-empty separator (p ∷ ps) some = refl

is_last-onto_first : (x : ℕ) (ps : List (List ℕ)) → is_last (onto_first x ps) ≡ false
is_last-onto_first x [] = refl
is_last-onto_first x (p ∷ ps) = refl

-- a cut leaves at least one piece
pub some_piece : (separator : ℕ) (xs : List ℕ) → is_last (pieces separator xs) ≡ false
some_piece separator [] = refl
some_piece separator (x ∷ xs) = by (eqb x separator)
  where
    by : (b : Bool) → is_last (cond b ([] ∷ pieces separator xs) (onto_first x (pieces separator xs))) ≡ false
    by true = refl
    by false = is_last-onto_first x (pieces separator xs)

-- joining undoes the cut
pub joined-pieces : (separator : ℕ) (xs : List ℕ) → joined_by separator (pieces separator xs) ≡ xs
joined-pieces separator [] = refl
joined-pieces separator (x ∷ xs) = by (eqb x separator) refl (joined-pieces separator xs)
  where
    by : (b : Bool) → eqb x separator ≡ b → joined_by separator (pieces separator xs) ≡ xs →
        joined_by separator (cond b ([] ∷ pieces separator xs) (onto_first x (pieces separator xs))) ≡ x ∷ xs
    by true here rest =
        joined-empty separator (pieces separator xs) (some_piece separator xs) ∙ ap (λ ys. separator ∷ ys) rest
        ∙ ap (λ y. y ∷ xs) (sym (eqb-true x separator here))
    by false here rest = joined-onto_first separator x (pieces separator xs) ∙ ap (λ ys. x ∷ ys) rest

-- the text of a text's levels is that text
pub text_of-levels_of : (text : List ℕ) → text_of_levels (levels_of text) ≡ text
text_of-levels_of text = joined-pieces 0x2F text

-- ---- how many

length-onto_first : (x : ℕ) (ps : List (List ℕ)) → is_last ps ≡ false → length (onto_first x ps) ≡ length ps
length-onto_first x [] some = absurd (true≢false some)
length-onto_first x (p ∷ ps) some = refl

-- there is one piece more than there are separators
pub length-pieces : (separator : ℕ) (xs : List ℕ) → length (pieces separator xs) ≡ count_by (parts separator) xs + 1
length-pieces separator [] = refl
length-pieces separator (x ∷ xs) =
    by (eqb x separator) (length-pieces separator xs)
    ∙ ap (λ n. n + 1) (sym (sum_by-cons (λ b. cond (parts separator b) 1 0) x xs))
  where
    by : (b : Bool) → length (pieces separator xs) ≡ count_by (parts separator) xs + 1 →
        length (cond b ([] ∷ pieces separator xs) (onto_first x (pieces separator xs)))
        ≡ cond b 1 0 + count_by (parts separator) xs + 1
    by true rest = omega arith
    by false rest = length-onto_first x (pieces separator xs) (some_piece separator xs) ∙ omega arith

-- a text has at least one level
pub some_level : (text : List ℕ) → 0 < length (levels_of text)
some_level text = omega (arith, length-pieces 0x2F text)
