use Rattle.shard_model.specs.laws.ListLaws.{opening_in_order, store_in_order, storing_grows}
use Rattle.shard_model.proofs.laws.storing_grows.Goals as goal

pub returns-clause-opening : goal.returns-clause-opening
returns-clause-opening c = opening_in_order

pub returns-clause-list : goal.returns-clause-list
returns-clause-list c = store_in_order

pub returns-clause-grown : goal.returns-clause-grown
returns-clause-grown c = storing_grows
