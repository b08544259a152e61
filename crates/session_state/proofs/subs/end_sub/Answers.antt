use Rattle.std.proofs.Common.{◌==◌, false, []}
use Rattle.session_model.specs.Acting.{changed_if}
use Rattle.session_state.specs.KeptSub.{KeptSub}
use Rattle.session_state.proofs.SubLemmas.{map_step}
use Rattle.session_state.proofs.subs.end_sub.Goals as goal

pub loop-sub-preserved : goal.loop-sub-preserved
loop-sub-preserved c =
    map_step (λ (x : KeptSub). changed_if (x.number == c.args.number) (λ (s : KeptSub). record s { live = false; sweeps = [] }) x)
    c.args.subs.now c.loop-sub.subs c.loop-sub.sub-index c.sub-item.result c.end_one.new.sub c.loop-sub-test.true c.loop-sub.invariant c.sub-item.is c.end_one.ensures
