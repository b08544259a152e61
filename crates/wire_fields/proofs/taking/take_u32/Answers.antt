use Rattle.std.proofs.Common.{arith, ◌^◌}
use Rattle.wire_fields.specs.Spelled.{spelled_u32}
use Rattle.wire_fields.specs.NumberLaws.{u32_goes_on, u32_never_bad}
use Rattle.wire_fields.specs.Reading.{u32_at}
use Rattle.wire_fields.proofs.Clauses.{found, only_short}
use Rattle.wire_fields.proofs.FieldKinds.{kind32, Below}
use Rattle.wire_fields.proofs.taking.take_u32.Goals as goal

pub returns-clause-found : goal.returns-clause-found
returns-clause-found c =
    found (λ n. n) u32_at spelled_u32 (Below (2 ^ 32)) kind32 c.u32_in.result c.args.bytes.now c.args.at.now c.u32_in.new.at (λ i. omega (arith, c.type_inv.bytes i)) c.u32_in.ensures

pub returns-clause-short : goal.returns-clause-short
returns-clause-short c =
    only_short (λ n. n) u32_at u32_goes_on u32_never_bad c.u32_in.result c.args.bytes.now c.args.at.now c.u32_in.new.at c.u32_in.ensures
