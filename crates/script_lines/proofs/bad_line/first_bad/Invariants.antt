use Rattle.std.proofs.Common.{◌≡◌, ◌+◌, ◌≤◌, length}
use Rattle.first_world_terms.specs.Script.{first_bad_line, line_texts}
use Rattle.script_lines.proofs.bad_line.first_bad.Given as goal

-- the lines that are left, counted on from this number, give the answer for the whole
abbrev pub invariant-lines : goal.invariant-lines
invariant-lines l = record {
  counted : l.number + length l.rest ≤ 1 + length l.script;
  same : first_bad_line l.number (line_texts l.rest) ≡ first_bad_line 1 (line_texts l.script);
}

abbrev pub decreases-lines : goal.decreases-lines
decreases-lines l = length l.rest
