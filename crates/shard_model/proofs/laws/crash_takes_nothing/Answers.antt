use Rattle.shard_model.specs.laws.MoveLaws.{crash_grows, crash_floor, crash_shows}
use Rattle.shard_model.proofs.laws.crash_takes_nothing.Goals as goal

pub returns-clause-grown : goal.returns-clause-grown
returns-clause-grown c = crash_grows

pub returns-clause-floor : goal.returns-clause-floor
returns-clause-floor c = crash_floor

pub returns-clause-shown : goal.returns-clause-shown
returns-clause-shown c = crash_shows
