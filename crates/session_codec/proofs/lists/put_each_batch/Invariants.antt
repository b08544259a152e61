use Rattle.std.proofs.Common.{◌≡◌, ◌++◌, take}
use Rattle.std.specs.List.{flat_map}
use Rattle.session_codec.specs.Spelling.{spelled_batch}
use Rattle.session_codec.proofs.lists.put_each_batch.Given as goal

abbrev pub invariant-loop-batch : goal.invariant-loop-batch
invariant-loop-batch l = l.out.items ≡ l.initial.out.items ++ flat_map spelled_batch (take l.batch-index l.batches)
