use Rattle.wire_fields.proofs.Begun.{passes, fails}
use Rattle.wire_fields.proofs.texts.is_utf8.Goals as goal

pub returns-in-Ok : goal.returns-in-Ok
returns-in-Ok c = passes c.args.bytes.now c.in-Ok.ensures.cases.1

pub returns-in-Err : goal.returns-in-Err
returns-in-Err c = fails c.args.bytes.now c.in-Err.ensures.cases.0
