use Rattle.turn_model.specs.laws.PumpLaws.{batch_may_be_issued, sweep_behind_in_order, sweep_behind_counts}
use Rattle.turn_model.proofs.pump_laws.a_batch_may_be_issued.Goals as goal

pub returns-clause-issued : goal.returns-clause-issued
returns-clause-issued c = batch_may_be_issued

pub returns-clause-order : goal.returns-clause-order
returns-clause-order c = sweep_behind_in_order

pub returns-clause-counts : goal.returns-clause-counts
returns-clause-counts c = sweep_behind_counts
