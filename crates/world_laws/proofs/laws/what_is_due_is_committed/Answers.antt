use Rattle.world_laws.specs.laws.AlwaysLaws.{due_always_comes}
use Rattle.world_laws.proofs.laws.what_is_due_is_committed.Goals as goal

pub returns : goal.returns
returns c = due_always_comes
