use Rattle.group_plan.specs.AskingLaws.{asked_few, asked_fit}
use Rattle.group_plan.proofs.laws.what_may_be_asked.Goals as goal

pub returns-clause-few : goal.returns-clause-few
returns-clause-few c = asked_few

pub returns-clause-fit : goal.returns-clause-fit
returns-clause-fit c = asked_fit
