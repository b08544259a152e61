use Rattle.std.proofs.Common.{◌≡◌, ◌≤◌, ◌-◌, drop, length, All}
use Rattle.mqtt_props.specs.Prop.{IsPropIn}
use Rattle.mqtt_props.specs.Props.{each_within, each_at}
use Rattle.mqtt_props.specs.EachLaws.{joined}
use Rattle.mqtt_props.proofs.listing.read_each.Given as goal

abbrev pub invariant-loop-at : goal.invariant-loop-at
invariant-loop-at l = record {
  whole : joined l.list.items (each_within (length l.bytes - length l.list.items) l.holder (drop l.at l.bytes)) ≡ each_at l.holder l.bytes;
  few : length l.list.items ≤ l.at;
  within : l.at ≤ length l.bytes;
  fits : All (IsPropIn l.holder) l.list.items;
}

abbrev pub decreases-loop-at : goal.decreases-loop-at
decreases-loop-at l = length l.bytes - l.at
