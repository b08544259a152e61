use Rattle.mqtt_props.specs.SpelledLaws.{prop_again, bare_in_any_order, bare_again, props_again, list_again}
use Rattle.mqtt_props.proofs.laws.spelled_is_read.Goals as goal

pub returns-clause-prop : goal.returns-clause-prop
returns-clause-prop c = prop_again

pub returns-clause-any_order : goal.returns-clause-any_order
returns-clause-any_order c = bare_in_any_order

pub returns-clause-bare : goal.returns-clause-bare
returns-clause-bare c = bare_again

pub returns-clause-whole : goal.returns-clause-whole
returns-clause-whole c = props_again

pub returns-clause-list : goal.returns-clause-list
returns-clause-list c = list_again
