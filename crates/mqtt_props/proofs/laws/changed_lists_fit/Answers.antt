use Rattle.mqtt_props.specs.KeptLaws.{added_fits, forwarded_fits, forwarded_fits_in, forwarded_in_publish}
use Rattle.mqtt_props.proofs.laws.changed_lists_fit.Goals as goal

pub returns-clause-added : goal.returns-clause-added
returns-clause-added c = added_fits

pub returns-clause-forwarded : goal.returns-clause-forwarded
returns-clause-forwarded c = forwarded_fits

pub returns-clause-whole : goal.returns-clause-whole
returns-clause-whole c = forwarded_fits_in

pub returns-clause-in_publish : goal.returns-clause-in_publish
returns-clause-in_publish c = forwarded_in_publish
