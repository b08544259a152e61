use Rattle.session_codec.specs.ExactLaws.{changes_spelled, snapshot_spelled}
use Rattle.session_codec.proofs.laws.read_was_spelled.Goals as goal

pub returns-clause-changes : goal.returns-clause-changes
returns-clause-changes c = changes_spelled

pub returns-clause-snapshot : goal.returns-clause-snapshot
returns-clause-snapshot c = snapshot_spelled
