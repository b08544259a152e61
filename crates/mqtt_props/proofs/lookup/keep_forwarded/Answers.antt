use Rattle.std.proofs.Common.{rules}
use Rattle.std.proofs.lemmas.Fn.{filter_same}
use Rattle.mqtt_props.specs.Prop.{id_of}
use Rattle.mqtt_props.specs.Lookup.{goes_on}
use Rattle.mqtt_props.proofs.lookup.keep_forwarded.Goals as goal

pub returns : goal.returns
returns c = filter_same _ (λ p. goes_on (id_of p)) _ (λ x b q k. search rules) _ _ c.retain.ensures.filtered
