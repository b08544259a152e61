use Rattle.session_model.specs.laws.ChangeLaws.{act_both, fit_both}
use Rattle.session_model.proofs.laws.changes_compose.Goals as goal

pub returns-clause-act : goal.returns-clause-act
returns-clause-act c = act_both

pub returns-clause-fit : goal.returns-clause-fit
returns-clause-fit c = fit_both
