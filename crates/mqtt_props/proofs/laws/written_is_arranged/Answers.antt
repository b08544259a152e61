use Rattle.mqtt_props.specs.ArrangedLaws.{written_is, arranged_fits, arranged_is_written}
use Rattle.mqtt_props.proofs.laws.written_is_arranged.Goals as goal

pub returns-clause-itself : goal.returns-clause-itself
returns-clause-itself c = written_is

pub returns-clause-fits : goal.returns-clause-fits
returns-clause-fits c = arranged_fits

pub returns-clause-ordered : goal.returns-clause-ordered
returns-clause-ordered c = arranged_is_written
