use Rattle.std.proofs.Common.{◌≡◌, drop}
use Rattle.mqtt_props.specs.Props.{has_repeated}
use Rattle.mqtt_props.proofs.listing.has_repeated.Given as goal

abbrev pub invariant-loop-at : goal.invariant-loop-at
invariant-loop-at l = has_repeated l.holder (drop l.at l.list) ≡ has_repeated l.holder l.list
