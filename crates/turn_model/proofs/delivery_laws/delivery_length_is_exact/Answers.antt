use Rattle.turn_model.specs.laws.DeliveryLaws.{delivery_sized, delivery_written, delivery_fits}
use Rattle.turn_model.proofs.delivery_laws.delivery_length_is_exact.Goals as goal

pub returns-clause-packet : goal.returns-clause-packet
returns-clause-packet c = delivery_sized

pub returns-clause-bytes : goal.returns-clause-bytes
returns-clause-bytes c = delivery_written

pub returns-clause-fits : goal.returns-clause-fits
returns-clause-fits c = delivery_fits
