use Rattle.shard_index.specs.GrowLaws.{absorbed_all_grows}
use Rattle.shard_index.proofs.laws.operations_grow.Goals as goal

pub returns : goal.returns
returns c = record { order = λ ops list is. (absorbed_all_grows ops list is).order; grown = λ ops list is. (absorbed_all_grows ops list is).grown }
