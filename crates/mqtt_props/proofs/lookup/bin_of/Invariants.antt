use Rattle.std.proofs.Common.{◌≡◌, drop}
use Rattle.mqtt_props.specs.Lookup.{first_of, bin_in}
use Rattle.mqtt_props.proofs.lookup.bin_of.Given as goal

abbrev pub invariant-loop-prop : goal.invariant-loop-prop
invariant-loop-prop l = first_of (bin_in l.identifier) (drop l.prop-index l.list) ≡ first_of (bin_in l.identifier) l.list
