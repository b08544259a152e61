use Rattle.shard_model.specs.laws.CapacityLaws.{few_or_within}
use Rattle.shard_model.proofs.laws.few_messages_fit.Goals as goal

pub returns : goal.returns
returns c = few_or_within
