use Rattle.std.proofs.Common.{◌≡◌, ◌++◌, take}
use Rattle.std.specs.List.{flat_map}
use Rattle.mqtt_props.specs.Prop.{spelled_prop}
use Rattle.mqtt_props.proofs.listing.put_each.Given as goal

abbrev pub invariant-loop-prop : goal.invariant-loop-prop
invariant-loop-prop l = l.out.items ≡ l.initial.out.items ++ flat_map spelled_prop (take l.prop-index l.list)
