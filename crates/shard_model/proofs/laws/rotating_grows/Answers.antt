use Rattle.shard_model.specs.laws.GenerationLaws.{rotated_in_order, rotated_grows}
use Rattle.shard_model.proofs.laws.rotating_grows.Goals as goal

pub returns-clause-list : goal.returns-clause-list
returns-clause-list c = rotated_in_order

pub returns-clause-grown : goal.returns-clause-grown
returns-clause-grown c = rotated_grows
