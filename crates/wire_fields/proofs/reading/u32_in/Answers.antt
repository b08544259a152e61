use Rattle.std.specs.Int.{w32}
use Rattle.wire_fields.proofs.Taken.{number_taken}
use Rattle.wire_fields.proofs.reading.u32_in.Goals as goal

pub returns : goal.returns
returns c =
    number_taken w32 c.args.bytes.now c.in_ok-field.field.now c.args.at.now c.from_be_bytes.result c.in_ok-field.ensures.ok.0 c.in_ok-field.ensures.ok.1 c.from_be_bytes.ensures
