use Rattle.std.proofs.Common.{◌-◌, drop}
use Rattle.session_codec.specs.Reading.{sub_at}
use Rattle.session_codec.specs.PartLaws.{IsSoFar}
use Rattle.session_codec.proofs.lists.so_many_subs_in.Given as goal

abbrev pub invariant-loop : goal.invariant-loop
invariant-loop l = IsSoFar (sub_at l.shards) l.count (drop l.initial.at l.bytes) l.subs.items (l.count - l.counter) (drop l.at l.bytes)
