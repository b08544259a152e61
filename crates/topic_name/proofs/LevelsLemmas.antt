-- What is left behind the first level of a text.
use Rattle.std.proofs.Common.{◌≡◌, ℕ, ◌<◌, Bool, true, false, not, List, ◌∷◌, length, Bor, Option, Some, None, refl, sym}
use Rattle.std.specs.Option.{is_some}
use Rattle.std.specs.List.{position_or_len, before_first, after_first}
use Rattle.topic_model.specs.Levels.{levels_of}
use Rattle.topic_model.specs.laws.LevelsLaws.{pieces_at_first, some_piece}
use Rattle.topic_model.specs.Levels.{parts}
use Rattle.topic_model.specs.Matching.{is_last}
use Rattle.topic_name.specs.LevelsLeft.{levels_of_rest}

-- an iterator is done where it has no rest
pub done_without_rest : (rest : Option (Bor (List ℕ))) (done : Bool) → is_some rest ≡ not done → done ≡ is_last (levels_of_rest rest)
done_without_rest None true some = refl
done_without_rest None false some = cc
done_without_rest (Some rest) true some = cc
done_without_rest (Some rest) false some = sym (some_piece 0x2F rest.now)

-- what stands round the first `/` is the first level, and the text of the others
pub cut_at_first : (text level behind : List ℕ) → level ≡ before_first (parts 0x2F) text → behind ≡ after_first (parts 0x2F) text →
    position_or_len (parts 0x2F) text < length text → levels_of text ≡ level ∷ levels_of behind
cut_at_first text level behind front rest within = rw (front, rest) (pieces_at_first 0x2F text within)
