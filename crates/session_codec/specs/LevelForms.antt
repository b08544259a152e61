-- The levels of a filter and its text: each gives the other back.
use Rattle.std.proofs.Common.{◌≡◌, ℕ, Bool, true, false, ◌||◌, not, eqb, if◌then◌else◌, List, [], ◌∷◌, ◌++◌, refl, ap, ◌∙◌}
use Rattle.std.specs.List.{list_all}
use Rattle.std.proofs.lemmas.Bool.{and_parts, and_from, eq-eqb}
use Rattle.topic_model.specs.Levels.{pieces, onto_first, joined_after, levels_of, text_of_levels}
use Rattle.topic_model.specs.laws.LevelsLaws.{some_piece}
use Rattle.topic_model.specs.Matching.{is_last}
use Rattle.topic_model.specs.Texts.{has}
use Rattle.session_codec.specs.HasSpelling.{are_levels}

abbrev bare : ℕ → List ℕ → Bool
bare separator piece = not (has separator piece)

-- no separator in front, and none behind
bare_parts : (separator x : ℕ) (xs : List ℕ) → bare separator (x ∷ xs) ≡ true → (eqb x separator ≡ false) × (bare separator xs ≡ true)
bare_parts separator x xs h = by (eqb x separator) h
  where
    by : (b : Bool) → not (b || has separator xs) ≡ true → (b ≡ false) × (bare separator xs ≡ true)
    by true h = absurd cc
    by false h = (refl, h)

bare_from : (separator x : ℕ) (xs : List ℕ) → eqb x separator ≡ false → bare separator xs ≡ true → bare separator (x ∷ xs) ≡ true
bare_from separator x xs e h = ap (λ b. not (b || has separator xs)) e ∙ h

-- ---- from pieces to a text and back

alone : (separator : ℕ) (p : List ℕ) → bare separator p ≡ true → pieces separator p ≡ p ∷ []
alone separator [] h = refl
alone separator (x ∷ xs) h =
    let b = bare_parts separator x xs h in
    let rest : pieces separator xs ≡ xs ∷ [] = alone separator xs b.1 in
    ap (λ c. if c then [] ∷ pieces separator xs else onto_first x (pieces separator xs)) b.0 ∙ ap (onto_first x) rest

before_others : (separator : ℕ) (p text : List ℕ) → bare separator p ≡ true → pieces separator (p ++ separator ∷ text) ≡ p ∷ pieces separator text
before_others separator [] text h =
    ap (λ c. if c then [] ∷ pieces separator text else onto_first separator (pieces separator text)) (eq-eqb separator separator refl)
before_others separator (x ∷ xs) text h =
    let b = bare_parts separator x xs h in
    let rest : pieces separator (xs ++ separator ∷ text) ≡ xs ∷ pieces separator text = before_others separator xs text b.1 in
    ap (λ c. if c then [] ∷ pieces separator (xs ++ separator ∷ text) else onto_first x (pieces separator (xs ++ separator ∷ text))) b.0
    ∙ ap (onto_first x) rest

after_first : (separator : ℕ) (p : List ℕ) (ps : List (List ℕ)) → bare separator p ≡ true → list_all (bare separator) ps ≡ true →
    pieces separator (joined_after separator p ps) ≡ p ∷ ps
after_first separator p [] first others = alone separator p first
after_first separator p (q ∷ ps) first others =
    let b = and_parts (bare separator q) (list_all (bare separator) ps) others in
    let rest : pieces separator (joined_after separator q ps) ≡ q ∷ ps = after_first separator q ps b.0 b.1 in
    before_others separator p (joined_after separator q ps) first ∙ ap (λ l. p ∷ l) rest

pub levels_of-text_of : (levels : List (List ℕ)) → are_levels levels ≡ true → levels_of (text_of_levels levels) ≡ levels
levels_of-text_of [] h = absurd cc
levels_of-text_of (p ∷ ps) h =
    let b = and_parts (bare 0x2F p) (list_all (bare 0x2F) ps) h in
    after_first 0x2F p ps b.0 b.1

-- ---- the levels of a text

bare_onto : (separator x : ℕ) (ps : List (List ℕ)) → eqb x separator ≡ false → list_all (bare separator) ps ≡ true → list_all (bare separator) (onto_first x ps) ≡ true
bare_onto separator x [] e h = and_from (bare separator (x ∷ [])) true (bare_from separator x [] e refl) refl
bare_onto separator x (p ∷ ps) e h =
    let b = and_parts (bare separator p) (list_all (bare separator) ps) h in
    and_from (bare separator (x ∷ p)) (list_all (bare separator) ps) (bare_from separator x p e b.0) b.1

pub bare_pieces : (separator : ℕ) (text : List ℕ) → list_all (bare separator) (pieces separator text) ≡ true
bare_pieces separator [] = refl
bare_pieces separator (x ∷ xs) = by (eqb x separator) refl (bare_pieces separator xs)
  where
    by : (b : Bool) → eqb x separator ≡ b → list_all (bare separator) (pieces separator xs) ≡ true →
        list_all (bare separator) (if b then [] ∷ pieces separator xs else onto_first x (pieces separator xs)) ≡ true
    by true e rest = rest
    by false e rest = bare_onto separator x (pieces separator xs) e rest

pub levels_of_text : (text : List ℕ) → are_levels (levels_of text) ≡ true
levels_of_text text =
    and_from (not (is_last (levels_of text))) (list_all (bare 0x2F) (levels_of text)) (ap not (some_piece 0x2F text)) (bare_pieces 0x2F text)
