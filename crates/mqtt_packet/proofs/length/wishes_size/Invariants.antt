use Rattle.std.proofs.Common.{◌≡◌, ◌+◌, ◌≤◌, drop}
use Rattle.std.specs.List.{sum_by}
use Rattle.mqtt_packet.specs.Sizes.{wish_size}
use Rattle.mqtt_packet.proofs.length.wishes_size.Given as goal

abbrev pub invariant-loop-wish : goal.invariant-loop-wish
invariant-loop-wish l = record {
  rest : l.total + sum_by wish_size (drop l.wish-index l.wishes) ≡ sum_by wish_size l.wishes;
  few : l.total ≤ 268435455;
}
