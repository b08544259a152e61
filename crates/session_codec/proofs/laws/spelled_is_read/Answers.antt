use Rattle.session_codec.specs.ExactLaws.{changes_again, snapshot_again}
use Rattle.session_codec.proofs.laws.spelled_is_read.Goals as goal

pub returns-clause-changes : goal.returns-clause-changes
returns-clause-changes c = changes_again

pub returns-clause-snapshot : goal.returns-clause-snapshot
returns-clause-snapshot c = snapshot_again
