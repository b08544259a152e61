use Rattle.turn_model.specs.laws.AllowedLaws.{not_allowed, not_put_out, not_acked}
use Rattle.turn_model.proofs.laws.only_allowed_moves_move.Goals as goal

pub returns-clause-worker : goal.returns-clause-worker
returns-clause-worker c = not_allowed

pub returns-clause-outs : goal.returns-clause-outs
returns-clause-outs c = not_put_out

pub returns-clause-acks : goal.returns-clause-acks
returns-clause-acks c = not_acked
