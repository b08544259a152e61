use Rattle.world_laws.specs.laws.AlwaysLaws.{always_committed}
use Rattle.world_laws.proofs.laws.what_is_put_out_is_committed.Goals as goal

pub returns : goal.returns
returns c = always_committed
