-- What was read so far is the front of what was left.
use Rattle.std.proofs.Common.{◌≡◌, ◌+◌, ◌-◌, ◌≤◌, vec_len}
use Rattle.std.specs.Io.KnownBytes.{Consumes}
use Rattle.broker_main.specs.Outcome.{script_limit}
use Rattle.broker_main.proofs.TakesLemmas.{Given}
use Rattle.broker_main.proofs.reading.read_script.Given as goal

abbrev pub invariant-turns : goal.invariant-turns
invariant-turns g l = record {
  read : Consumes (g.S.Source.left l.initial.source) (g.S.Source.left l.source) l.bytes.items;
  limit : vec_len l.bytes ≤ script_limit;
  room : vec_len l.piece ≡ 65536;
  kept : g.S.Source.faults l.source ≡ g.S.Source.faults l.initial.source;
  given : Given (g.S.Source.gave l.initial.source) (g.S.Source.gave l.source) (vec_len l.bytes);
}

-- how many bytes may still come, and the turn that sees the end
abbrev pub decreases-turns : goal.decreases-turns
decreases-turns g l = script_limit + 1 - vec_len l.bytes
