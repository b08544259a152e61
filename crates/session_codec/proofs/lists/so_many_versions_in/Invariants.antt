use Rattle.std.proofs.Common.{◌-◌, drop}
use Rattle.session_codec.specs.Reading.{version_at}
use Rattle.session_codec.specs.PartLaws.{IsSoFar}
use Rattle.session_codec.proofs.lists.so_many_versions_in.Given as goal

abbrev pub invariant-loop : goal.invariant-loop
invariant-loop l = IsSoFar (version_at) l.count (drop l.initial.at l.bytes) l.versions.items (l.count - l.counter) (drop l.at l.bytes)
