use Rattle.std.proofs.Common.{◌≤◌, ◌-◌, length}
use Rattle.mqtt_packet.specs.Reading.{wish_at}
use Rattle.mqtt_packet.specs.EachLaws.{IsSoFar}
use Rattle.mqtt_packet.proofs.filters.wishes_in.Given as goal

abbrev pub invariant-loop-at : goal.invariant-loop-at
invariant-loop-at l = record {
  whole : IsSoFar wish_at l.bytes l.wishes.items l.at;
  few : length l.wishes.items ≤ l.at;
}

abbrev pub decreases-loop-at : goal.decreases-loop-at
decreases-loop-at l = length l.bytes - l.at
