use Rattle.world_model.specs.laws.AllowedLaws.{not_allowed, not_put_out}
use Rattle.world_model.proofs.laws.only_allowed_moves_move.Goals as goal

pub returns-clause-world : goal.returns-clause-world
returns-clause-world c = not_allowed

pub returns-clause-outs : goal.returns-clause-outs
returns-clause-outs c = not_put_out
