use Rattle.shard_index.specs.GroupLaws.{group_absorbed}
use Rattle.shard_index.proofs.laws.a_group_is_absorbed.Goals as goal

pub returns : goal.returns
returns c = group_absorbed
