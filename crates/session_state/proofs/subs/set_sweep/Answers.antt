use Rattle.std.proofs.Common.{◌==◌, slice_set}
use Rattle.session_model.specs.Acting.{changed_if}
use Rattle.session_state.specs.KeptSub.{KeptSub}
use Rattle.session_state.proofs.SubLemmas.{map_step}
use Rattle.session_state.proofs.subs.set_sweep.Goals as goal

pub loop-sub-preserved : goal.loop-sub-preserved
loop-sub-preserved c =
    map_step (λ (x : KeptSub). changed_if (x.number == c.args.number) (λ (s : KeptSub). record s { sweeps = slice_set s.sweeps c.args.shard c.args.sweep }) x)
    c.args.subs.now c.loop-sub.subs c.loop-sub.sub-index c.sub-item.result c.set_one_sweep.new.sub c.loop-sub-test.true c.loop-sub.invariant c.sub-item.is c.set_one_sweep.ensures
