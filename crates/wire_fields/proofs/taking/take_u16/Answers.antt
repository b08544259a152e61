use Rattle.std.proofs.Common.{arith, ◌^◌}
use Rattle.wire_fields.specs.Spelled.{spelled_u16}
use Rattle.wire_fields.specs.NumberLaws.{u16_goes_on, u16_never_bad}
use Rattle.wire_fields.specs.Reading.{u16_at}
use Rattle.wire_fields.proofs.Clauses.{found, only_short}
use Rattle.wire_fields.proofs.FieldKinds.{kind16, Below}
use Rattle.wire_fields.proofs.taking.take_u16.Goals as goal

pub returns-clause-found : goal.returns-clause-found
returns-clause-found c =
    found (λ n. n) u16_at spelled_u16 (Below (2 ^ 16)) kind16 c.u16_in.result c.args.bytes.now c.args.at.now c.u16_in.new.at (λ i. omega (arith, c.type_inv.bytes i)) c.u16_in.ensures

pub returns-clause-short : goal.returns-clause-short
returns-clause-short c =
    only_short (λ n. n) u16_at u16_goes_on u16_never_bad c.u16_in.result c.args.bytes.now c.args.at.now c.u16_in.new.at c.u16_in.ensures
