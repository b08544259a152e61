use Rattle.shard_model.specs.laws.AllowedMoveLaws.{not_allowed}
use Rattle.shard_model.proofs.allowed.only_allowed_moves_move.Goals as goal

pub returns : goal.returns
returns c = not_allowed
