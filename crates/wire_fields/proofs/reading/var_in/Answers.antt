use Rattle.std.proofs.Common.{arith, sym, ap, ◌∙◌}
use Rattle.wire_fields.specs.Reading.{var_at}
use Rattle.wire_fields.specs.Places.{are_bytes_drop}
use Rattle.wire_fields.proofs.Taken.{var_taken}
use Rattle.wire_fields.proofs.reading.var_in.Goals as goal

pub returns : goal.returns
returns c =
    var_taken c.args.bytes.now c.in_ok-value.behind.now c.args.at.now c.in_ok-value.value (are_bytes_drop c.args.at.now c.args.bytes.now (λ i. omega (arith, c.type_inv.bytes i)))
    (ap var_at (sym c.rest_of.ensures) ∙ c.in_ok-value.ensures.exact)
