use Rattle.std.proofs.Common.{◌-◌, drop}
use Rattle.session_codec.specs.Reading.{sweep_at}
use Rattle.session_codec.specs.PartLaws.{IsSoFar}
use Rattle.session_codec.proofs.parts.sweeps_in.Given as goal

abbrev pub invariant-loop : goal.invariant-loop
invariant-loop l = IsSoFar (sweep_at) l.count (drop l.initial.at l.bytes) l.sweeps.items (l.count - l.counter) (drop l.at l.bytes)
