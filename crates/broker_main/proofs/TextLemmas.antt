-- The text about a line outside the grammar, and what holds of every text.
use Rattle.std.proofs.Common.{ℕ, ◌≡◌, List, ◌∷◌, ◌++◌, [], codes, Option, Some, None, IfSome, append_assoc, ap, sym}
use Rattle.std.specs.Fmt.{decimal}
use Rattle.broker_main.specs.Outcome.{bad_line_text}

-- the text as it is printed
pub bad_line_text-printed : (number : ℕ) → codes "line " ++ (decimal number ++ (codes ": not a script line" ++ 10 ∷ [])) ≡ bad_line_text number
bad_line_text-printed number = ap (λ l. codes "line " ++ l) (sym (append_assoc (decimal number) (codes ": not a script line") (10 ∷ [])))

pub if_told : (left : Option (List ℕ)) (P : List ℕ → Type 0) → ((script : List ℕ) → P script) → IfSome left P
if_told None P h = tt
if_told (Some script) P h = h script
