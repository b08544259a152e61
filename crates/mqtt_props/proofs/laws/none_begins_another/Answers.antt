use Rattle.mqtt_props.specs.SpelledLaws.{none_begins}
use Rattle.mqtt_props.proofs.laws.none_begins_another.Goals as goal

pub returns : goal.returns
returns c = none_begins
