use Rattle.std.proofs.Common.{◌==◌}
use Rattle.session_model.specs.Acting.{changed_if}
use Rattle.session_state.specs.KeptSub.{KeptSub}
use Rattle.session_state.proofs.SubLemmas.{map_step}
use Rattle.session_state.proofs.subs.set_version.Goals as goal

pub loop-sub-preserved : goal.loop-sub-preserved
loop-sub-preserved c =
    map_step (λ (x : KeptSub). changed_if (x.number == c.args.number) (λ (s : KeptSub). record s { version = c.args.version }) x)
    c.args.subs.now c.loop-sub.subs c.loop-sub.sub-index c.sub-item.result c.set_one_version.new.sub c.loop-sub-test.true c.loop-sub.invariant c.sub-item.is c.set_one_version.ensures
