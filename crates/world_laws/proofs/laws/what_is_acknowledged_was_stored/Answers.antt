use Rattle.world_laws.specs.laws.AlwaysLaws.{always_kept}
use Rattle.world_laws.proofs.laws.what_is_acknowledged_was_stored.Goals as goal

pub returns : goal.returns
returns c = always_kept
