use Rattle.wire_fields.proofs.FieldKinds.{none_begins}
use Rattle.wire_fields.proofs.laws.none_begins_another.Goals as goal

pub returns : goal.returns
returns c = none_begins
