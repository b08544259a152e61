use Rattle.std.proofs.Common.{IsTrue, inl, subst, sym}
use Rattle.outside.specs.DiskModel.{leaves_only_at_first, leaves_only_then}
use Rattle.gated_log.specs.Closing.{IsGateTorn}
use Rattle.gated_log.proofs.ClosingLemmas.{gate_images}
use Rattle.gated_log.proofs.closing.write_closed.Goals as goal

pub returns-in_err-write_at-clause-any_moment : goal.returns-in_err-write_at-clause-any_moment
returns-in_err-write_at-clause-any_moment g c = λ told.
    leaves_only_then _ _ _ _
    (leaves_only_at_first _ (IsGateTorn c.args.place _) (λ image left. g.met.D.Disk.only_now _ image left) (λ image left. inl (c.requires.alone told image left)))
    (c.write_at.ensures.called.time)
    (gate_images c.args.place _ _ _ (c.requires.alone told) (c.write_at.ensures.images))

pub returns-in_err-sync-clause-any_moment : goal.returns-in_err-sync-clause-any_moment
returns-in_err-sync-clause-any_moment g c = λ told.
    let told_then = subst IsTrue (sym c.write_at.ensures.called.tells) told in
    leaves_only_then _ _ _ _
    (leaves_only_then _ _ _ _
    (leaves_only_at_first _ (IsGateTorn c.args.place _) (λ image left. g.met.D.Disk.only_now _ image left) (λ image left. inl (c.requires.alone told image left)))
    (c.write_at.ensures.called.time)
    (gate_images c.args.place _ _ _ (c.requires.alone told) (c.write_at.ensures.images)))
    (c.sync.ensures.called.time)
    (λ image left. gate_images c.args.place _ _ _ (c.requires.alone told) (c.write_at.ensures.images) image (c.sync.ensures.writes_none.images image left))

pub returns-clause-any_moment : goal.returns-clause-any_moment
returns-clause-any_moment g c = λ told.
    let told_then = subst IsTrue (sym c.write_at.ensures.called.tells) told in
    leaves_only_then _ _ _ _
    (leaves_only_then _ _ _ _
    (leaves_only_at_first _ (IsGateTorn c.args.place _) (λ image left. g.met.D.Disk.only_now _ image left) (λ image left. inl (c.requires.alone told image left)))
    (c.write_at.ensures.called.time)
    (gate_images c.args.place _ _ _ (c.requires.alone told) (c.write_at.ensures.images)))
    (c.sync.ensures.called.time)
    (λ image left. gate_images c.args.place _ _ _ (c.requires.alone told) (c.write_at.ensures.images) image (c.sync.ensures.writes_none.images image left))
