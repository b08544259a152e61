use Rattle.std.proofs.Common.{◌≡◌, ◌++◌, drop}
use Rattle.hex.specs.Hex.{encode_upper}
use Rattle.script_lines.proofs.printing.put_digits.Given as goal

-- what is put already, and the digits of what is left
abbrev pub invariant-loop-b : goal.invariant-loop-b
invariant-loop-b l = l.out.items ++ encode_upper (drop l.b-index l.bytes) ≡ l.initial.out.items ++ encode_upper l.bytes
