use Rattle.turn_model.specs.laws.CountingLaws.{counts_as_grown, counts_as_others}
use Rattle.turn_model.proofs.pump_laws.counting_stays.Goals as goal

pub returns-clause-grown : goal.returns-clause-grown
returns-clause-grown c = counts_as_grown

pub returns-clause-others : goal.returns-clause-others
returns-clause-others c = counts_as_others
