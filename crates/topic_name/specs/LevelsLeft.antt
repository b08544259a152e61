-- What an iterator over levels has still to give.
use Rattle.std.specs.Prelude.{ℕ, List, [], Option, Some, None}
use Rattle.std.specs.Borrow.{Bor}
use Rattle.topic_model.specs.Levels.{levels_of}
use Rattle.topic_name.specs.declared.levels.Levels.{Levels}

-- the levels of a rest of a text, none where there is no rest
abbrev pub levels_of_rest : Option (Bor (List ℕ)) → List (List ℕ)
levels_of_rest None = []
levels_of_rest (Some rest) = levels_of rest.now

abbrev pub levels_left : Levels → List (List ℕ)
levels_left it = levels_of_rest it.rest
