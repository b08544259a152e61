use Rattle.std.proofs.Common.{◌-◌, drop}
use Rattle.session_codec.specs.PartLaws.{IsSoFar}
use Rattle.record_codec.specs.Reading.{awaited_at}
use Rattle.record_codec.proofs.openings.so_many_in.Given as goal

abbrev pub invariant-loop : goal.invariant-loop
invariant-loop l = IsSoFar awaited_at l.count (drop l.initial.at l.bytes) l.all.items (l.count - l.counter) (drop l.at l.bytes)
