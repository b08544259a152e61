use Rattle.std.proofs.Common.{◌≡◌, true}
use Rattle.mqtt_props.specs.Prop.{IsPropIn}
use Rattle.mqtt_props.specs.ArrangedLaws.{order_moves, order_keeps, order_again, order_keeps_size, order_is_kept}
use Rattle.mqtt_props.proofs.laws.order_keeps_all.Goals as goal

pub returns-clause-moves : goal.returns-clause-moves
returns-clause-moves c = order_moves

pub returns-clause-props : goal.returns-clause-props
returns-clause-props c = order_is_kept

pub returns-clause-fits : goal.returns-clause-fits
returns-clause-fits c = λ holder ps h. order_keeps (IsPropIn holder) ps h

pub returns-clause-each : goal.returns-clause-each
returns-clause-each c = λ test ps h. order_keeps (λ p. test p ≡ true) ps h

pub returns-clause-again : goal.returns-clause-again
returns-clause-again c = order_again

pub returns-clause-size : goal.returns-clause-size
returns-clause-size c = order_keeps_size
