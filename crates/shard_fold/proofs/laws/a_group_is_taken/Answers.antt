use Rattle.shard_fold.specs.FoldLaws.{group_is_taken}
use Rattle.shard_fold.proofs.laws.a_group_is_taken.Goals as goal

pub returns : goal.returns
returns c = group_is_taken
