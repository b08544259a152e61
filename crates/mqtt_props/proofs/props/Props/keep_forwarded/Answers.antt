use Rattle.mqtt_props.specs.Prop.{id_of}
use Rattle.mqtt_props.specs.Lookup.{goes_on}
use Rattle.mqtt_props.specs.KeptLaws.{part_kept}
use Rattle.mqtt_props.proofs.props.Props.keep_forwarded.Goals as goal

pub invariant_of-self : goal.invariant_of-self
invariant_of-self c = rw c.keep_forwarded.ensures (part_kept (λ p. goes_on (id_of p)) _ c.self.invariant)
