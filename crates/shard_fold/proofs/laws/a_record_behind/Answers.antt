use Rattle.shard_fold.specs.FoldLaws.{record_behind}
use Rattle.shard_fold.proofs.laws.a_record_behind.Goals as goal

pub returns : goal.returns
returns c = record_behind
