use Rattle.session_refinement.specs.laws.KeepsLaws.{changed_keeps}
use Rattle.session_refinement.specs.laws.SessionLaws.{acted_keeps}
use Rattle.session_refinement.proofs.laws.changes_are_kept.Goals as goal

pub returns-clause-changed : goal.returns-clause-changed
returns-clause-changed c = changed_keeps

pub returns-clause-sessions : goal.returns-clause-sessions
returns-clause-sessions c = λ kept plain entries change. acted_keeps kept plain entries change.client change.effect
