use Rattle.std.proofs.Common.{◌≡◌, ◌++◌, length}
use Rattle.packet_lines.specs.Text.{text_of_input}
use Rattle.packet_lines.proofs.answer.put_all.Given as goal

-- what was added, and what the lines that are left print
abbrev pub invariant-lines : goal.invariant-lines
invariant-lines l = l.out.items ++ text_of_input l.rest ≡ l.initial.out.items ++ text_of_input l.input

abbrev pub decreases-lines : goal.decreases-lines
decreases-lines l = length l.rest
