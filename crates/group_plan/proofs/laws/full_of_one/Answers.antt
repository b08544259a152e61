use Rattle.group_plan.specs.PlanLaws.{full_of_one}
use Rattle.group_plan.proofs.laws.full_of_one.Goals as goal

pub returns : goal.returns
returns c = full_of_one
