use Rattle.mqtt_props.specs.SizeLaws.{var_sized, prop_sized, bare_sized, props_sized}
use Rattle.mqtt_props.proofs.laws.sizes_are_numbers.Goals as goal

pub returns-clause-var : goal.returns-clause-var
returns-clause-var c = var_sized

pub returns-clause-prop : goal.returns-clause-prop
returns-clause-prop c = prop_sized

pub returns-clause-bare : goal.returns-clause-bare
returns-clause-bare c = bare_sized

pub returns-clause-whole : goal.returns-clause-whole
returns-clause-whole c = props_sized
