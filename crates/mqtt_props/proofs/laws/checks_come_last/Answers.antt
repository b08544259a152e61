use Rattle.mqtt_props.specs.ListLaws.{bare_is_checked, props_are_checked}
use Rattle.mqtt_props.proofs.laws.checks_come_last.Goals as goal

pub returns-clause-bare : goal.returns-clause-bare
returns-clause-bare c = bare_is_checked

pub returns-clause-whole : goal.returns-clause-whole
returns-clause-whole c = props_are_checked
