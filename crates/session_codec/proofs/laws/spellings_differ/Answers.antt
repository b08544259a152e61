use Rattle.session_codec.specs.ExactLaws.{changes_differ, snapshots_differ}
use Rattle.session_codec.proofs.laws.spellings_differ.Goals as goal

pub returns-clause-changes : goal.returns-clause-changes
returns-clause-changes c = changes_differ

pub returns-clause-snapshot : goal.returns-clause-snapshot
returns-clause-snapshot c = snapshots_differ
