use Rattle.session_model.specs.laws.OrderLaws.{begun_in_order, acting_in_order}
use Rattle.session_model.proofs.laws.acting_keeps_order.Goals as goal

pub returns-clause-begun : goal.returns-clause-begun
returns-clause-begun c = begun_in_order

pub returns-clause-changed : goal.returns-clause-changed
returns-clause-changed c = acting_in_order
