use Rattle.std.proofs.Common.{◌≡◌, ◌++◌, map, length}
use Rattle.packet_lines.specs.Lines.{words}
use Rattle.packet_lines.proofs.lines.words_of.Given as goal

-- the words that were found, and those that are left
abbrev pub invariant-words : goal.invariant-words
invariant-words l = map (λ w. w.now) l.found.items ++ words l.rest ≡ words l.line

abbrev pub decreases-words : goal.decreases-words
decreases-words l = length l.rest
