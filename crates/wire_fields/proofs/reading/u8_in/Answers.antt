use Rattle.wire_fields.proofs.Taken.{byte_taken}
use Rattle.wire_fields.proofs.reading.u8_in.Goals as goal

pub returns : goal.returns
returns c = byte_taken c.args.bytes.now c.in_ok-field.field.now c.args.at.now c.in_ok-field.ensures.ok.0 c.in_ok-field.ensures.ok.1
