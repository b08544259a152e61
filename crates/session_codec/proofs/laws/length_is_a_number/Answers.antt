use Rattle.session_codec.specs.SizeLaws.{changes_sized, snapshot_sized}
use Rattle.session_codec.proofs.laws.length_is_a_number.Goals as goal

pub returns-clause-changes : goal.returns-clause-changes
returns-clause-changes c = changes_sized

pub returns-clause-snapshot : goal.returns-clause-snapshot
returns-clause-snapshot c = snapshot_sized
