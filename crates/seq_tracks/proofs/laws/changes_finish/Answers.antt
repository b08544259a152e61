use Rattle.seq_tracks.specs.RunLaws.{next_not_done}
use Rattle.seq_tracks.specs.FinishLaws.{finished-received, finished-done, finished-passed}
use Rattle.seq_tracks.proofs.laws.changes_finish.Goals as goal

pub returns-clause-received : goal.returns-clause-received
returns-clause-received c = finished-received

pub returns-clause-done : goal.returns-clause-done
returns-clause-done c = finished-done

pub returns-clause-passed : goal.returns-clause-passed
returns-clause-passed c = finished-passed

pub returns-clause-complete : goal.returns-clause-complete
returns-clause-complete c = next_not_done
