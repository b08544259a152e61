use Rattle.shard_model.specs.laws.MoveLaws.{only_show_shows, show_shows, show_waits}
use Rattle.shard_model.proofs.laws.pending_is_not_shown.Goals as goal

pub returns-clause-kept : goal.returns-clause-kept
returns-clause-kept c = only_show_shows

pub returns-clause-shown : goal.returns-clause-shown
returns-clause-shown c = show_shows

pub returns-clause-waits : goal.returns-clause-waits
returns-clause-waits c = show_waits
