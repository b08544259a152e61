-- How pieces come from the first place of the separator, and that they join to the list again.
use Rattle.std.proofs.Common.{◌≡◌, ◌≢◌, ℕ, zero, suc, ◌<◌, true, false, cond, eqb, List, [], ◌∷◌, length, take, drop, get_or, refl, sym, ap, ◌∙◌, arith, eq-eqb, ⊎_elim}
use Rattle.std.proofs.lemmas.Bool.{cases_Bool, ne_eqb, eqb-true, true≢false}
use Rattle.first_topic_name.specs.Pieces.{pieces, onto_first, joined}
use Rattle.first_topic_name.specs.Matching.{is_last}

-- the first separator ends the first piece
pub pieces_at : (b : ℕ) (xs : List ℕ) (i : ℕ) → i < length xs → get_or xs i 0 ≡ b → ((k : ℕ) → k < i → get_or xs k 0 ≢ b) → pieces b xs ≡ take i xs ∷ pieces b (drop (suc i) xs)
pieces_at b [] i lt here before = absurd (omega arith)
pieces_at b (x ∷ xs) zero lt here before = rw (eq-eqb x b here) refl
pieces_at b (x ∷ xs) (suc i) lt here before =
    rw (ne_eqb x b (before 0 (omega arith)), pieces_at b xs i (omega arith) here (λ k l. before (suc k) (omega arith))) refl

-- a list without the separator is one piece
pub pieces_whole : (b : ℕ) (xs : List ℕ) → ((k : ℕ) → k < length xs → get_or xs k 0 ≢ b) → pieces b xs ≡ xs ∷ []
pieces_whole b [] none = refl
pieces_whole b (x ∷ xs) none = rw (ne_eqb x b (none 0 (omega arith)), pieces_whole b xs (λ k l. none (suc k) (omega arith))) refl

-- one more element at the front of the first piece is one more at the front of the whole
joined-onto_first : (b x : ℕ) (ps : List (List ℕ)) → joined b (onto_first x ps) ≡ x ∷ joined b ps
joined-onto_first b x [] = refl
joined-onto_first b x (p ∷ []) = refl
joined-onto_first b x (p ∷ (q ∷ ps)) = refl

-- an empty piece before others puts a separator at the front
joined-empty : (b : ℕ) (ps : List (List ℕ)) → is_last ps ≡ false → joined b ([] ∷ ps) ≡ b ∷ joined b ps
joined-empty b [] some = absurd (true≢false some)
joined-empty b (p ∷ ps) some = refl

is_last-onto_first : (x : ℕ) (ps : List (List ℕ)) → is_last (onto_first x ps) ≡ false
is_last-onto_first x [] = refl
is_last-onto_first x (p ∷ ps) = refl

-- a cut leaves at least one piece
pub more_pieces : (b : ℕ) (xs : List ℕ) → is_last (pieces b xs) ≡ false
more_pieces b [] = refl
more_pieces b (x ∷ xs) =
    elim (eqb x b) as (λ t. is_last (cond t ([] ∷ pieces b xs) (onto_first x (pieces b xs))) ≡ false) [ true ↦ refl | false ↦ is_last-onto_first x (pieces b xs) ]

-- joining undoes the cut
pub joined-pieces : (b : ℕ) (xs : List ℕ) → joined b (pieces b xs) ≡ xs
joined-pieces b [] = refl
joined-pieces b (x ∷ xs) =
    ⊎_elim
    (λ e. rw e (joined-empty b (pieces b xs) (more_pieces b xs) ∙ ap (λ ys. b ∷ ys) (joined-pieces b xs) ∙ ap (λ y. y ∷ xs) (sym (eqb-true x b e))))
    (λ e. rw e (joined-onto_first b x (pieces b xs) ∙ ap (λ ys. x ∷ ys) (joined-pieces b xs)))
    (cases_Bool (eqb x b))
