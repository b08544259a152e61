use Rattle.std.proofs.Common.{◌≡◌, ◌≤◌, drop}
use Rattle.script_lines.specs.Digits.{number_after}
use Rattle.script_lines.proofs.number.digits_within.Given as goal

-- what is left of the text gives the answer for the whole
abbrev pub invariant-loop-b : goal.invariant-loop-b
invariant-loop-b l = record {
  small : l.value ≤ 65535;
  same : number_after l.value (drop l.b-index l.text) ≡ number_after 0 l.text;
}
