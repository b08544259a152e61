use Rattle.turn_model.specs.laws.CarriedLaws.{one_more}
use Rattle.turn_model.proofs.laws.steps_are_carried.Goals as goal

pub returns : goal.returns
returns c = one_more
