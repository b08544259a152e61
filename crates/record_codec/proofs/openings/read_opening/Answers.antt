use Rattle.std.proofs.Common.{arith}
use Rattle.record_codec.specs.RecordForms.{opening_whole}
use Rattle.record_codec.specs.ExactLaws.{given_is_spelled, given_none}
use Rattle.record_codec.proofs.openings.read_opening.Goals as goal

pub returns-clause-spelled : goal.returns-clause-spelled
returns-clause-spelled c =
    given_is_spelled opening_whole (λ x. x) c.opening_of.result c.args.bytes.now (λ i. omega (arith, c.type_inv.bytes i)) c.opening_of.ensures.exact

pub returns-clause-bad : goal.returns-clause-bad
returns-clause-bad c = given_none opening_whole (λ x. x) c.opening_of.result c.args.bytes.now c.opening_of.ensures.exact
