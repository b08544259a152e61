use Rattle.std.proofs.Common.{◌≡◌, drop}
use Rattle.mqtt_props.specs.Lookup.{first_of, var_in}
use Rattle.mqtt_props.proofs.lookup.var_of.Given as goal

abbrev pub invariant-loop-prop : goal.invariant-loop-prop
invariant-loop-prop l = first_of var_in (drop l.prop-index l.list) ≡ first_of var_in l.list
