use Rattle.shard_fold.specs.PotentialLaws.{group_takes}
use Rattle.shard_fold.proofs.laws.a_group_takes_its_room.Goals as goal

pub returns : goal.returns
returns c = group_takes
