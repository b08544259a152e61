use Rattle.world_laws.specs.laws.AlwaysLaws.{binds_always}
use Rattle.world_laws.proofs.laws.a_bind_takes_all_that_is_unfinished.Goals as goal

pub returns : goal.returns
returns c = binds_always
