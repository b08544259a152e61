-- What was read so far is the front of what was left.
use Rattle.std.proofs.Common.{◌≡◌, ◌-◌, ◌^◌, vec_len}
use Rattle.std.specs.Io.KnownBytes.{Consumes}
use Rattle.packet_lines.proofs.reading.read_all.Given as goal

abbrev pub invariant-turns : goal.invariant-turns
invariant-turns g l = record {
  read : Consumes (g.S.Source.left l.initial.source) (g.S.Source.left l.source) l.bytes.items;
  room : vec_len l.piece ≡ 65536;
  kept : g.S.Source.faults l.source ≡ g.S.Source.faults l.initial.source;
}

-- how many bytes a vector may still take
abbrev pub decreases-turns : goal.decreases-turns
decreases-turns g l = 2 ^ 63 - vec_len l.bytes
