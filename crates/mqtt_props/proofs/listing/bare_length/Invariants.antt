use Rattle.std.proofs.Common.{◌≡◌, ◌+◌, ◌≤◌, drop, length}
use Rattle.std.specs.List.{flat_map}
use Rattle.mqtt_props.specs.Prop.{spelled_prop}
use Rattle.mqtt_props.proofs.listing.bare_length.Given as goal

abbrev pub invariant-loop-prop : goal.invariant-loop-prop
invariant-loop-prop l = record {
  rest : l.total + length (flat_map spelled_prop (drop l.prop-index l.list)) ≡ length (flat_map spelled_prop l.list);
  few : l.total ≤ 268435455;
}
