use Rattle.world_laws.specs.laws.AlwaysLaws.{always_grown}
use Rattle.world_laws.proofs.laws.lists_grow.Goals as goal

pub returns : goal.returns
returns c = always_grown
