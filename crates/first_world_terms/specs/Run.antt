-- A script from its bytes to the printed bytes.
use Rattle.std.specs.Prelude.{ℕ, List, [], ◌∷◌, ◌++◌, Option, Some, None}
use Rattle.first_world_terms.specs.Script.{Line, Nothing, line_of, line_texts}
use Rattle.first_world_terms.specs.Turn.{State, opening_state, after_line, outs_of_line}
use Rattle.first_world_terms.specs.Text.{text_of_outs}

-- a line outside the grammar does nothing; a script with one isn't run
abbrev pub line_or_nothing : Option Line → Line
line_or_nothing None = Nothing
line_or_nothing (Some line) = line

-- the state after the lines of these texts
abbrev pub after_lines : State → List (List ℕ) → State
after_lines s [] = s
after_lines s (text ∷ texts) = after_lines (after_line s (line_or_nothing (line_of text))) texts

-- the text that they print
abbrev pub text_of_lines : State → List (List ℕ) → List ℕ
text_of_lines s [] = []
text_of_lines s (text ∷ texts) =
    text_of_outs (outs_of_line s (line_or_nothing (line_of text))) ++ text_of_lines (after_line s (line_or_nothing (line_of text))) texts

-- the text of a script
abbrev pub text_of_script : List ℕ → List ℕ
text_of_script script = text_of_lines opening_state (line_texts script)
