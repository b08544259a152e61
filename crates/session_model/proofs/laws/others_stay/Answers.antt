use Rattle.session_model.specs.laws.OtherLaws.{other_stays}
use Rattle.session_model.proofs.laws.others_stay.Goals as goal

pub returns : goal.returns
returns c = other_stays
