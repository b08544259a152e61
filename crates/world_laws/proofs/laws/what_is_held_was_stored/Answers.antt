use Rattle.world_laws.specs.laws.AlwaysLaws.{always_stored}
use Rattle.world_laws.proofs.laws.what_is_held_was_stored.Goals as goal

pub returns : goal.returns
returns c = λ profile config moves. (always_stored profile config moves).1
