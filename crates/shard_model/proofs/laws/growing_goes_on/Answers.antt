use Rattle.shard_model.specs.laws.ListLaws.{grown_then}
use Rattle.shard_model.proofs.laws.growing_goes_on.Goals as goal

pub returns : goal.returns
returns c = grown_then
