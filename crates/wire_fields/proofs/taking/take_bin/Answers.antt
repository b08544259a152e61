use Rattle.std.proofs.Common.{arith}
use Rattle.wire_fields.specs.Spelled.{spelled_bin}
use Rattle.wire_fields.specs.SizedLaws.{bin_goes_on, bin_never_bad}
use Rattle.wire_fields.specs.Reading.{bin_at}
use Rattle.wire_fields.proofs.Clauses.{found, only_short}
use Rattle.wire_fields.proofs.FieldKinds.{bin_kind, IsBin}
use Rattle.wire_fields.proofs.taking.take_bin.Goals as goal

pub returns-clause-found : goal.returns-clause-found
returns-clause-found c =
    found (λ f. f.now) bin_at spelled_bin (IsBin) bin_kind c.bin_in.result c.args.bytes.now c.args.at.now c.bin_in.new.at (λ i. omega (arith, c.type_inv.bytes i)) c.bin_in.ensures

pub returns-clause-short : goal.returns-clause-short
returns-clause-short c =
    only_short (λ f. f.now) bin_at (bin_goes_on) (bin_never_bad) c.bin_in.result c.args.bytes.now c.args.at.now c.bin_in.new.at c.bin_in.ensures
