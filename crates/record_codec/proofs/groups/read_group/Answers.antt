use Rattle.std.proofs.Common.{arith}
use Rattle.record_codec.specs.RecordForms.{group_whole}
use Rattle.record_codec.specs.ExactLaws.{given_is_spelled, given_none}
use Rattle.record_codec.proofs.groups.read_group.Goals as goal

pub returns-clause-spelled : goal.returns-clause-spelled
returns-clause-spelled c =
    given_is_spelled group_whole (λ x. x) c.group_of.result c.args.bytes.now (λ i. omega (arith, c.type_inv.bytes i)) c.group_of.ensures.exact

pub returns-clause-bad : goal.returns-clause-bad
returns-clause-bad c = given_none group_whole (λ x. x) c.group_of.result c.args.bytes.now c.group_of.ensures.exact
