use Rattle.std.proofs.Common.{arith}
use Rattle.wire_fields.specs.Spelled.{spelled_var}
use Rattle.wire_fields.specs.Reading.{var_at}
use Rattle.wire_fields.proofs.Clauses.{found, short, bad}
use Rattle.wire_fields.proofs.FieldKinds.{var_kind, IsVar}
use Rattle.wire_fields.proofs.taking.take_var.Goals as goal

pub returns-clause-found : goal.returns-clause-found
returns-clause-found c =
    found (λ n. n) var_at spelled_var (IsVar) var_kind c.var_in.result c.args.bytes.now c.args.at.now c.var_in.new.at (λ i. omega (arith, c.type_inv.bytes i)) c.var_in.ensures

pub returns-clause-short : goal.returns-clause-short
returns-clause-short c = short (λ n. n) var_at spelled_var (IsVar) var_kind c.var_in.result c.args.bytes.now c.args.at.now c.var_in.new.at c.var_in.ensures

pub returns-clause-bad : goal.returns-clause-bad
returns-clause-bad c = bad (λ n. n) var_at spelled_var (IsVar) var_kind c.var_in.result c.args.bytes.now c.args.at.now c.var_in.new.at c.var_in.ensures
