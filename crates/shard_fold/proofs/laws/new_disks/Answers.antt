use Rattle.shard_fold.specs.FoldLaws.{nothing_held}
use Rattle.shard_fold.proofs.laws.new_disks.Goals as goal

pub returns : goal.returns
returns c = nothing_held
