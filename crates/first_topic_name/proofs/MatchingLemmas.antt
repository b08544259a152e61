-- What is left of a filter and of a topic behind their first levels.
use Rattle.std.proofs.Common.{◌≡◌, ℕ, false, List, [], ◌∷◌, refl}
use Rattle.std.proofs.lemmas.Bool.{true≢false}
use Rattle.first_topic_name.specs.Pieces.{pieces}
use Rattle.first_topic_name.specs.Matching.{is_last, levels_match}
use Rattle.first_topic_name.proofs.PiecesLemmas.{more_pieces}

unmatched : (ts : List (List ℕ)) → is_last ts ≡ false → levels_match [] ts ≡ false
unmatched [] some = absurd (true≢false some)
unmatched (t ∷ ts) some = refl

-- a filter that has ended matches no further level
pub filter_ended : (b : ℕ) (xs : List ℕ) → levels_match [] (pieces b xs) ≡ false
filter_ended b xs = unmatched (pieces b xs) (more_pieces b xs)
