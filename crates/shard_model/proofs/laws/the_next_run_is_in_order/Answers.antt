use Rattle.shard_model.specs.laws.NextRunLaws.{next_run_is, front_comes, none_is_left, none_comes}
use Rattle.shard_model.proofs.laws.the_next_run_is_in_order.Goals as goal

pub returns-clause-next : goal.returns-clause-next
returns-clause-next c = next_run_is

pub returns-clause-front : goal.returns-clause-front
returns-clause-front c = front_comes

pub returns-clause-none : goal.returns-clause-none
returns-clause-none c = none_is_left

pub returns-clause-ended : goal.returns-clause-ended
returns-clause-ended c = none_comes
