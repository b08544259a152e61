use Rattle.mqtt_props.specs.KeptLaws.{no_props}
use Rattle.mqtt_props.proofs.props.Props.new.Goals as goal

pub invariant_of-result : goal.invariant_of-result
invariant_of-result c = rw c.new.ensures.items no_props
