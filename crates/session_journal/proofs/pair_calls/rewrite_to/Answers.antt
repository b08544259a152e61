use Rattle.std.proofs.Common.{Err, ◌≡◌}
use Rattle.gated_log.specs.declared.refused.LogRefused.TheVariants.{Fault}
use Rattle.session_journal.proofs.PairLemmas.{rewrite_failed}
use Rattle.session_journal.proofs.pair_calls.rewrite_to.Goals as goal

pub returns-in-Err-Fault-clause-makes : goal.returns-in-Err-Fault-clause-makes
returns-in-Err-Fault-clause-makes g c =
    let fault : c.rewrite.result ≡ Err Fault = cc in
    rewrite_failed g.D.Disk.state c.args.pair.now c.reserve.new.self c.rewrite.new.self c.args.snapshot.now c.reserve.ensures.stays
    (c.rewrite.ensures.in_doubt fault) c.rewrite.ensures.any_moment c.rewrite.ensures.images
    c.rewrite.ensures.run.tells c.rewrite.ensures.run.arms c.rewrite.ensures.cause.later (c.rewrite.ensures.cause.fault fault)
