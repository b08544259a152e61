use Rattle.shard_model.specs.laws.GrownLaws.{streams_stay}
use Rattle.shard_model.proofs.laws.streams_stay.Goals as goal

pub returns : goal.returns
returns c = streams_stay
