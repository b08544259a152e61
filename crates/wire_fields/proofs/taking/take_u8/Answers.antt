use Rattle.std.proofs.Common.{arith, ◌^◌}
use Rattle.wire_fields.specs.Spelled.{spelled_u8}
use Rattle.wire_fields.specs.NumberLaws.{u8_goes_on, u8_never_bad}
use Rattle.wire_fields.specs.Reading.{u8_at}
use Rattle.wire_fields.proofs.Clauses.{found, only_short}
use Rattle.wire_fields.proofs.FieldKinds.{byte_kind, Below}
use Rattle.wire_fields.proofs.taking.take_u8.Goals as goal

pub returns-clause-found : goal.returns-clause-found
returns-clause-found c =
    found (λ n. n) u8_at spelled_u8 (Below (2 ^ 8)) byte_kind c.u8_in.result c.args.bytes.now c.args.at.now c.u8_in.new.at (λ i. omega (arith, c.type_inv.bytes i)) c.u8_in.ensures

pub returns-clause-short : goal.returns-clause-short
returns-clause-short c =
    only_short (λ n. n) u8_at (u8_goes_on) (u8_never_bad) c.u8_in.result c.args.bytes.now c.args.at.now c.u8_in.new.at c.u8_in.ensures
