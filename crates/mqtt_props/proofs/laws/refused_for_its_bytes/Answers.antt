use Rattle.mqtt_props.specs.RefusedLaws.{prop_refused, list_refused}
use Rattle.mqtt_props.proofs.laws.refused_for_its_bytes.Goals as goal

pub returns-clause-prop : goal.returns-clause-prop
returns-clause-prop c = prop_refused

pub returns-clause-list : goal.returns-clause-list
returns-clause-list c = list_refused
