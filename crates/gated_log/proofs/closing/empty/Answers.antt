use Rattle.std.proofs.Common.{IsTrue, inr, refl, subst, sym}
use Rattle.outside.specs.DiskModel.{leaves_only_at_first, leaves_only_then, leaves_only_and}
use Rattle.gated_log.specs.Closing.{HasOldList}
use Rattle.gated_log.proofs.ClosingLemmas.{old_list}
use Rattle.gated_log.proofs.closing.empty.Goals as goal

pub returns-clause-any_moment : goal.returns-clause-any_moment
returns-clause-any_moment g c = λ told.
    let told_then = subst IsTrue (sym c.sync.ensures.called.tells) told in
    leaves_only_and _ _ _ _ _
    (leaves_only_then _ _ _ _
    (leaves_only_at_first _ (HasOldList (g.D.Disk.state c.args.disk.now).may_leave) (λ image left. g.met.D.Disk.only_now _ image left) (λ image left. inr (image, left, refl)))
    (c.sync.ensures.called.time)
    (λ image left. inr (image, c.sync.ensures.writes_none.images image left, refl)))
    (c.close_there.ensures.any_moment told_then)
    (λ image closing. old_list _ _ _ image (g.met.D.Disk.reads_as_image _ told) (c.sync.ensures.writes_none.seen) closing)
