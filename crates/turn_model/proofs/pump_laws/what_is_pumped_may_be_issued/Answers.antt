use Rattle.turn_model.specs.laws.PumpedLaws.{pumped_may_be_issued, pump_leaves_none}
use Rattle.turn_model.proofs.pump_laws.what_is_pumped_may_be_issued.Goals as goal

pub returns-clause-issued : goal.returns-clause-issued
returns-clause-issued c = λ profile now m k lists b first ready e. pumped_may_be_issued profile now m k lists first ready b e

pub returns-clause-none : goal.returns-clause-none
returns-clause-none c = pump_leaves_none
