-- How many levels a text has.
use Rattle.std.proofs.Common.{◌≡◌, ℕ, ◌+◌, ◌<◌, true, false, cond, eqb, List, [], ◌∷◌, length, refl, arith, ◌∙◌}
use Rattle.std.specs.List.{count_by}
use Rattle.std.proofs.lemmas.List.Sums.{sum_by-cons}
use Rattle.first_topic_name.specs.Pieces.{pieces, onto_first}

length-onto_first : (x : ℕ) (ps : List (List ℕ)) → 0 < length ps → length (onto_first x ps) ≡ length ps
length-onto_first x [] some = absurd (omega arith)
length-onto_first x (p ∷ ps) some = refl

-- one more than there are separators
pub count_of_pieces : (b : ℕ) (xs : List ℕ) → length (pieces b xs) ≡ count_by (λ y. eqb y b) xs + 1
count_of_pieces b [] = refl
count_of_pieces b (x ∷ xs) =
    let rest : length (pieces b xs) ≡ count_by (λ y. eqb y b) xs + 1 = count_of_pieces b xs in
    let step : count_by (λ y. eqb y b) (x ∷ xs) ≡ cond (eqb x b) 1 0 + count_by (λ y. eqb y b) xs = sum_by-cons (λ y. cond (eqb y b) 1 0) x xs in
    let split : length (pieces b (x ∷ xs)) ≡ cond (eqb x b) 1 0 + count_by (λ y. eqb y b) xs + 1 =
    elim (eqb x b) as (λ t. length (cond t ([] ∷ pieces b xs) (onto_first x (pieces b xs))) ≡ cond t 1 0 + count_by (λ y. eqb y b) xs + 1) [
      | true ↦ omega (arith, rest)
      | false ↦ length-onto_first x (pieces b xs) (omega (arith, rest)) ∙ omega (arith, rest)
    ] in
    omega (arith, split, step)
