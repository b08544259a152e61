use Rattle.shard_model.specs.laws.GrownSweepLaws.{order_stays, counts_stay, none_of_new}
use Rattle.shard_model.proofs.laws.sweeps_stay.Goals as goal

pub returns-clause-order : goal.returns-clause-order
returns-clause-order c = order_stays

pub returns-clause-old : goal.returns-clause-old
returns-clause-old c = counts_stay

pub returns-clause-new : goal.returns-clause-new
returns-clause-new c = none_of_new
