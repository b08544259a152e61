use Rattle.mqtt_props.specs.FoundLaws.{prop_takes, bare_takes, props_take, list_takes}
use Rattle.mqtt_props.proofs.laws.read_was_spelled.Goals as goal

pub returns-clause-prop : goal.returns-clause-prop
returns-clause-prop c = λ holder bytes rest p fits e. let t = prop_takes holder bytes (p, rest) fits e in (t.in_range, t.parts)

pub returns-clause-bare : goal.returns-clause-bare
returns-clause-bare c = bare_takes

pub returns-clause-whole : goal.returns-clause-whole
returns-clause-whole c = λ holder bytes rest ps fits e. props_take holder bytes (ps, rest) fits e

pub returns-clause-list : goal.returns-clause-list
returns-clause-list c = λ holder bytes rest ps fits e. list_takes holder bytes (ps, rest) fits e
