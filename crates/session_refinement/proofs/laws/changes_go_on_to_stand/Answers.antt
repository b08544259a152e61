use Rattle.session_refinement.specs.laws.SessionStandLaws.{effect_stands, standing_keeps, acted_stands}
use Rattle.session_refinement.proofs.laws.changes_go_on_to_stand.Goals as goal

pub returns-clause-changed : goal.returns-clause-changed
returns-clause-changed c = effect_stands

pub returns-clause-sessions : goal.returns-clause-sessions
returns-clause-sessions c = λ profile lists kept plain entries change. acted_stands profile lists kept plain entries change.client change.effect

pub returns-clause-keep : goal.returns-clause-keep
returns-clause-keep c = standing_keeps
