use Rattle.shard_model.specs.laws.GenerationLaws.{dropped_in_order, dropped_grows}
use Rattle.shard_model.proofs.laws.dropping_grows.Goals as goal

pub returns-clause-list : goal.returns-clause-list
returns-clause-list c = dropped_in_order

pub returns-clause-grown : goal.returns-clause-grown
returns-clause-grown c = dropped_grows
