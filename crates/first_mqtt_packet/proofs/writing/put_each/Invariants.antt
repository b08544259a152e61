use Rattle.std.proofs.Common.{◌≡◌, ◌++◌, take}
use Rattle.std.specs.List.{flat_map}
use Rattle.first_mqtt_packet.specs.Written.{prop_bytes}
use Rattle.first_mqtt_packet.proofs.writing.put_each.Given as goal

abbrev pub invariant-loop-prop : goal.invariant-loop-prop
invariant-loop-prop l = l.out.items ≡ l.initial.out.items ++ flat_map prop_bytes (take l.prop-index l.props)
