use Rattle.std.proofs.Common.{arith}
use Rattle.session_codec.specs.ExactLaws.{given_snapshot_is_spelled, given_no_snapshot}
use Rattle.session_codec.proofs.snapshot.read_snapshot.Goals as goal

pub returns-clause-spelled : goal.returns-clause-spelled
returns-clause-spelled c =
    given_snapshot_is_spelled (λ s. s) c.snapshot_of.result c.args.bytes.now (λ i. omega (arith, c.type_inv.bytes i)) c.snapshot_of.ensures.exact

pub returns-clause-bad : goal.returns-clause-bad
returns-clause-bad c = given_no_snapshot (λ s. s) c.snapshot_of.result c.args.bytes.now c.snapshot_of.ensures.exact
