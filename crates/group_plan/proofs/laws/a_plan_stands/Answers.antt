use Rattle.group_plan.specs.PlanLaws.{plan_stands}
use Rattle.group_plan.proofs.laws.a_plan_stands.Goals as goal

pub returns : goal.returns
returns c = plan_stands
