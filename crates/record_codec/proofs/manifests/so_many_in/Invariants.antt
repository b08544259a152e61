use Rattle.std.proofs.Common.{◌-◌, drop}
use Rattle.session_codec.specs.PartLaws.{IsSoFar}
use Rattle.record_codec.specs.Reading.{cut_at}
use Rattle.record_codec.proofs.manifests.so_many_in.Given as goal

abbrev pub invariant-loop : goal.invariant-loop
invariant-loop l = IsSoFar cut_at l.count (drop l.initial.at l.bytes) l.cuts.items (l.count - l.counter) (drop l.at l.bytes)
