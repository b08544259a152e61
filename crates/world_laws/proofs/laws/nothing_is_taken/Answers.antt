use Rattle.world_laws.specs.laws.AlwaysLaws.{nothing_taken}
use Rattle.world_laws.proofs.laws.nothing_is_taken.Goals as goal

pub returns : goal.returns
returns c = nothing_taken
