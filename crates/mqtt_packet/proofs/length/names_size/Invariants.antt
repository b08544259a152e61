use Rattle.std.proofs.Common.{◌≡◌, ◌+◌, ◌≤◌, drop}
use Rattle.std.specs.List.{sum_by}
use Rattle.mqtt_packet.specs.Sizes.{sized}
use Rattle.mqtt_packet.proofs.length.names_size.Given as goal

abbrev pub invariant-loop-name : goal.invariant-loop-name
invariant-loop-name l = record {
  rest : l.total + sum_by sized (drop l.name-index l.names) ≡ sum_by sized l.names;
  few : l.total ≤ 268435455;
}
