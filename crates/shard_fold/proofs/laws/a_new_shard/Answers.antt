use Rattle.shard_fold.specs.FoldLaws.{new_shard}
use Rattle.shard_fold.proofs.laws.a_new_shard.Goals as goal

pub returns : goal.returns
returns c = new_shard
