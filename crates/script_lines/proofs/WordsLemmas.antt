-- More than three words.
use Rattle.std.proofs.Common.{◌≡◌, ℕ, false, List, [], ◌∷◌, None, refl}
use Rattle.std.proofs.lemmas.Bool.{true≢false}
use Rattle.first_topic_name.specs.Matching.{is_last}
use Rattle.first_topic_name.specs.Pieces.{pieces}
use Rattle.first_topic_name.proofs.PiecesLemmas.{more_pieces}
use Rattle.first_world_terms.specs.Script.{line_of_words}

with_more : (word c hex : List ℕ) (more : List (List ℕ)) → is_last more ≡ false → line_of_words (word ∷ c ∷ hex ∷ more) ≡ None
with_more word c hex [] some = absurd (true≢false some)
with_more word c hex (w ∷ ws) some = refl

-- a fourth word is one too many
pub four_words : (word c hex rest : List ℕ) → line_of_words (word ∷ c ∷ hex ∷ pieces 32 rest) ≡ None
four_words word c hex rest = with_more word c hex (pieces 32 rest) (more_pieces 32 rest)
