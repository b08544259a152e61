use Rattle.seq_tracks.specs.StandLaws.{stands_begun, stands_changed}
use Rattle.seq_tracks.proofs.laws.changes_agree.Goals as goal

pub returns-clause-begun : goal.returns-clause-begun
returns-clause-begun c = stands_begun

pub returns-clause-changed : goal.returns-clause-changed
returns-clause-changed c = stands_changed
