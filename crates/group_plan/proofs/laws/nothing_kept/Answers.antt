use Rattle.group_plan.specs.PlanLaws.{nothing_kept}
use Rattle.group_plan.proofs.laws.nothing_kept.Goals as goal

pub returns : goal.returns
returns c = λ list ops now none. nothing_kept ops list now none
