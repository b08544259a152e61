use Rattle.session_refinement.specs.laws.ReadAgainLaws.{entries_alike}
use Rattle.session_refinement.proofs.laws.batches_are_read_again_as_issued.Goals as goal

pub returns : goal.returns
returns c = entries_alike
