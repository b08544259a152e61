use Rattle.std.proofs.Common.{◌-◌, drop}
use Rattle.session_codec.specs.Reading.{change_at}
use Rattle.session_codec.specs.PartLaws.{IsSoFar}
use Rattle.session_codec.proofs.changes.so_many_in.Given as goal

abbrev pub invariant-loop : goal.invariant-loop
invariant-loop l = IsSoFar (change_at l.format l.shards) l.count (drop l.initial.at l.bytes) l.changes.items (l.count - l.counter) (drop l.at l.bytes)
