-- The line of a script that a value of the code stands for.
use Rattle.std.specs.Prelude.{Option, Some, None}
use Rattle.script_lines.specs.declared.line.Line.{Line}
use Rattle.script_lines.specs.declared.line.Line.TheVariants.{Nothing, Open, Send, Pump}
use Rattle.script_lines.specs.declared.parts.Parts.{Parts}
use Rattle.script_lines.specs.declared.parts.Parts.TheVariants.{NoWords, OpenWords, SendWords, PumpWords}
use Rattle.first_world_terms.specs.Script.{hex_of, send_of}
use Rattle.first_world_terms.specs.Script as script

-- the same line, with the bytes of a vector as a list
abbrev pub line_of_fields : Line → script.Line
line_of_fields Nothing = script.Nothing
line_of_fields (Open c) = script.Open c
line_of_fields (Send c bytes) = script.Send c bytes.items
line_of_fields (Pump c) = script.Pump c

-- the line of words that are apart, whose digits for bytes are still text
abbrev pub line_of_parts : Parts → Option script.Line
line_of_parts NoWords = Some script.Nothing
line_of_parts (OpenWords c) = Some (script.Open c)
line_of_parts (SendWords c text) = send_of (Some c) (hex_of text.now)
line_of_parts (PumpWords c) = Some (script.Pump c)

-- none where the words are outside the grammar
abbrev pub line_of_words_found : Option Parts → Option script.Line
line_of_words_found None = None
line_of_words_found (Some parts) = line_of_parts parts
