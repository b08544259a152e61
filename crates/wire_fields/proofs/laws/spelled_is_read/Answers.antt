use Rattle.wire_fields.specs.VarLaws.{var_again}
use Rattle.wire_fields.proofs.FieldKinds.{text_read_again, bin_read_again}
use Rattle.wire_fields.proofs.laws.spelled_is_read.Goals as goal

pub returns-clause-var : goal.returns-clause-var
returns-clause-var c = var_again

pub returns-clause-bin : goal.returns-clause-bin
returns-clause-bin c = bin_read_again

pub returns-clause-text : goal.returns-clause-text
returns-clause-text c = text_read_again
