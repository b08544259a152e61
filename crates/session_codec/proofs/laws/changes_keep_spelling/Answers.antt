use Rattle.session_codec.specs.KeepLaws.{change_spelled, changes_spelled_after}
use Rattle.session_codec.proofs.laws.changes_keep_spelling.Goals as goal

pub returns-clause-change : goal.returns-clause-change
returns-clause-change c = change_spelled

pub returns-clause-changes : goal.returns-clause-changes
returns-clause-changes c = changes_spelled_after
