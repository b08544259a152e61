use Rattle.std.proofs.Common.{arith, ◌^◌}
use Rattle.wire_fields.specs.Spelled.{spelled_u64}
use Rattle.wire_fields.specs.NumberLaws.{u64_goes_on, u64_never_bad}
use Rattle.wire_fields.specs.Reading.{u64_at}
use Rattle.wire_fields.proofs.Clauses.{found, only_short}
use Rattle.wire_fields.proofs.FieldKinds.{kind64, Below}
use Rattle.wire_fields.proofs.taking.take_u64.Goals as goal

pub returns-clause-found : goal.returns-clause-found
returns-clause-found c =
    found (λ n. n) u64_at spelled_u64 (Below (2 ^ 64)) kind64 c.u64_in.result c.args.bytes.now c.args.at.now c.u64_in.new.at (λ i. omega (arith, c.type_inv.bytes i)) c.u64_in.ensures

pub returns-clause-short : goal.returns-clause-short
returns-clause-short c =
    only_short (λ n. n) u64_at u64_goes_on u64_never_bad c.u64_in.result c.args.bytes.now c.args.at.now c.u64_in.new.at c.u64_in.ensures
