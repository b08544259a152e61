use Rattle.shard_model.specs.laws.MoveLaws.{grown_itself, step_grows, step_floor}
use Rattle.shard_model.proofs.laws.moves_only_add.Goals as goal

pub returns-clause-itself : goal.returns-clause-itself
returns-clause-itself c = grown_itself

pub returns-clause-grown : goal.returns-clause-grown
returns-clause-grown c = step_grows

pub returns-clause-floor : goal.returns-clause-floor
returns-clause-floor c = step_floor
