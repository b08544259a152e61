-- The first line outside the grammar, line by line.
use Rattle.std.proofs.Common.{◌≡◌, ℕ, ◌+◌, true, false, List, ◌∷◌, Option, Some, None, is_some, refl}
use Rattle.std.proofs.lemmas.Bool.{true≢false, false≢true}
use Rattle.first_world_terms.specs.Script.{Line, bad_line_under, first_bad_line, line_of}

under_line : (n : ℕ) (o : Option Line) (later : Option ℕ) → is_some o ≡ true → bad_line_under n o later ≡ later
under_line n (Some line) later h = refl
under_line n None later h = absurd (false≢true h)

under_none : (n : ℕ) (o : Option Line) (later : Option ℕ) → is_some o ≡ false → bad_line_under n o later ≡ Some n
under_none n (Some line) later h = absurd (true≢false h)
under_none n None later h = refl

pub first_bad_line-line : (n : ℕ) (text : List ℕ) (texts : List (List ℕ)) → is_some (line_of text) ≡ true
    → first_bad_line n (text ∷ texts) ≡ first_bad_line (n + 1) texts
first_bad_line-line n text texts h = under_line n (line_of text) (first_bad_line (n + 1) texts) h

pub first_bad_line-none : (n : ℕ) (text : List ℕ) (texts : List (List ℕ)) → is_some (line_of text) ≡ false
    → first_bad_line n (text ∷ texts) ≡ Some n
first_bad_line-none n text texts h = under_none n (line_of text) (first_bad_line (n + 1) texts) h

pub ruleset line_steps = (first_bad_line-line, first_bad_line-none)
