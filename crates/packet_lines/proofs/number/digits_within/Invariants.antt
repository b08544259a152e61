use Rattle.std.proofs.Common.{◌≡◌, ◌≤◌, drop}
use Rattle.packet_lines.specs.Digits.{number_after}
use Rattle.packet_lines.proofs.number.digits_within.Given as goal

-- what is left of the word gives the answer for the whole
abbrev pub invariant-loop-b : goal.invariant-loop-b
invariant-loop-b l = record {
  small : l.value ≤ 4294967295;
  same : number_after l.value (drop l.b-index l.word) ≡ number_after 0 l.word;
}
