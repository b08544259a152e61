use Rattle.world_laws.specs.laws.AlwaysLaws.{always_distinct}
use Rattle.world_laws.proofs.laws.clients_are_distinct.Goals as goal

pub returns : goal.returns
returns c = always_distinct
