use Rattle.std.proofs.Common.{◌≤◌, ◌-◌, length}
use Rattle.mqtt_packet.specs.Reading.{name_at}
use Rattle.mqtt_packet.specs.EachLaws.{IsSoFar}
use Rattle.mqtt_packet.proofs.filters.names_in.Given as goal

abbrev pub invariant-loop-at : goal.invariant-loop-at
invariant-loop-at l = record {
  whole : IsSoFar name_at l.bytes l.names.items l.at;
  few : length l.names.items ≤ l.at;
}

abbrev pub decreases-loop-at : goal.decreases-loop-at
decreases-loop-at l = length l.bytes - l.at
