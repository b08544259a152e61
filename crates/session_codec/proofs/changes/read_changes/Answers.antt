use Rattle.std.proofs.Common.{arith}
use Rattle.session_codec.specs.ExactLaws.{given_is_spelled, given_none}
use Rattle.session_codec.proofs.changes.read_changes.Goals as goal

pub returns-clause-spelled : goal.returns-clause-spelled
returns-clause-spelled c =
    given_is_spelled (λ v. v.items) c.changes_of.result c.args.format c.args.shards c.args.bytes.now (λ i. omega (arith, c.type_inv.bytes i))
    c.changes_of.ensures.exact

pub returns-clause-bad : goal.returns-clause-bad
returns-clause-bad c =
    given_none (λ v. v.items) c.changes_of.result c.args.format c.args.shards c.args.bytes.now c.changes_of.ensures.exact
