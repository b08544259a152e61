use Rattle.std.proofs.Common.{◌-◌, drop}
use Rattle.session_codec.specs.Reading.{kept_batch_at}
use Rattle.session_codec.specs.PartLaws.{IsSoFar}
use Rattle.session_codec.proofs.lists.so_many_batches_in.Given as goal

abbrev pub invariant-loop : goal.invariant-loop
invariant-loop l = IsSoFar (kept_batch_at l.shards) l.count (drop l.initial.at l.bytes) l.batches.items (l.count - l.counter) (drop l.at l.bytes)
