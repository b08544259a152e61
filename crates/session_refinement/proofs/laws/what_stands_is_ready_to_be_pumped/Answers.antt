use Rattle.session_refinement.specs.laws.ReadyLaws.{standing_is_ready}
use Rattle.session_refinement.proofs.laws.what_stands_is_ready_to_be_pumped.Goals as goal

pub returns : goal.returns
returns c = standing_is_ready
