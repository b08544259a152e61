use Rattle.session_refinement.specs.laws.GrowLaws.{stands_as_grown}
use Rattle.session_refinement.proofs.laws.standing_stays_as_lists_grow.Goals as goal

pub returns : goal.returns
returns c = stands_as_grown
