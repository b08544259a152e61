use Rattle.shard_model.specs.laws.MoveLaws.{opening_shard_in_order, step_in_order, run_in_order, crashed_in_order}
use Rattle.shard_model.proofs.laws.moves_keep_order.Goals as goal

pub returns-clause-opening : goal.returns-clause-opening
returns-clause-opening c = opening_shard_in_order

pub returns-clause-step : goal.returns-clause-step
returns-clause-step c = step_in_order

pub returns-clause-run : goal.returns-clause-run
returns-clause-run c = run_in_order

pub returns-clause-crash : goal.returns-clause-crash
returns-clause-crash c = crashed_in_order
