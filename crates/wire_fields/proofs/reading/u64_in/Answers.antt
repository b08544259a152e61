use Rattle.std.specs.Int.{w64}
use Rattle.wire_fields.proofs.Taken.{number_taken}
use Rattle.wire_fields.proofs.reading.u64_in.Goals as goal

pub returns : goal.returns
returns c =
    number_taken w64 c.args.bytes.now c.in_ok-f.f.now c.args.at.now c.from_be_bytes.result c.in_ok-f.ensures.ok.0 c.in_ok-f.ensures.ok.1 c.from_be_bytes.ensures
