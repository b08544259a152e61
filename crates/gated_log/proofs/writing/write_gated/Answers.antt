use Rattle.std.proofs.Common.{◌+◌, ◌≤◌, [], ◌∷◌, IsTrue, arith, inr, length, subst, sym}
use Rattle.outside.specs.DiskModel.{Torn, leaves_only_then}
use Rattle.outside.specs.Torn.{torn_held}
use Rattle.outside.specs.Results.{on_err}
use Rattle.gated_log.specs.Records.{records}
use Rattle.gated_log.specs.Stands.{StandsWith}
use Rattle.gated_log.proofs.CommitLemmas.{gate_images, gate_written, torn_record}
use Rattle.gated_log.proofs.CrashLemmas.{gate_torn}
use Rattle.gated_log.proofs.writing.write_gated.Goals as goal

-- the write of the gate failed: some byte is there
pub returns-in_err-write_at-clause-doubt : goal.returns-in_err-write_at-clause-doubt
returns-in_err-write_at-clause-doubt g c = on_err c.from_residual-in_err-write_at.result (λ told.
    let (body, only) = c.in_ok-write_body.ensures.written told in
    let told_then = subst IsTrue (sym c.write_body.ensures.run.tells) told in
    record {
      reads = inr (gate_torn _ _ c.args.place 0 _ _ body (c.in_err-write_at.ensures.torn told_then));
      each = gate_images _ _ c.args.place 0 _ _ _ body only (c.write_at.ensures.images);
    })

pub returns-in_err-write_at-clause-any_moment : goal.returns-in_err-write_at-clause-any_moment
returns-in_err-write_at-clause-any_moment g c = λ told.
    let (body, only) = c.in_ok-write_body.ensures.written told in
    let told_then = subst IsTrue (sym c.write_body.ensures.run.tells) told in
    leaves_only_then _ _ _ _ (c.write_body.ensures.any_moment told) (c.write_at.ensures.called.time)
    (gate_images _ _ c.args.place 0 _ _ _ body only (c.write_at.ensures.images))

-- the last sync failed: the gate is read as open
pub returns-in_err-sync-clause-doubt : goal.returns-in_err-sync-clause-doubt
returns-in_err-sync-clause-doubt g c = on_err c.from_residual-in_err-sync.result (λ told.
    let (body, only) = c.in_ok-write_body.ensures.written told in
    let told_then = subst IsTrue (sym c.write_body.ensures.run.tells) told in
    let told_last = subst IsTrue (sym c.write_at.ensures.called.tells) told_then in
    record {
      reads = inr (
        1,
        subst (λ bytes. StandsWith (records (g.D.Disk.state c.args.disk.now).seen) c.args.draft.now c.args.place 1 bytes) (sym (c.sync.ensures.writes_none.seen))
            (gate_written _ _ c.args.place 0 _ _ body (c.in_ok-write_at.ensures.written told_then)),
      );
      each = λ image left. gate_images _ _ c.args.place 0 _ _ _ body only (c.write_at.ensures.images) image (c.sync.ensures.writes_none.images image left);
    })

pub returns-in_err-sync-clause-any_moment : goal.returns-in_err-sync-clause-any_moment
returns-in_err-sync-clause-any_moment g c = λ told.
    let (body, only) = c.in_ok-write_body.ensures.written told in
    let told_then = subst IsTrue (sym c.write_body.ensures.run.tells) told in
    let told_last = subst IsTrue (sym c.write_at.ensures.called.tells) told_then in
    leaves_only_then _ _ _ _
    (leaves_only_then _ _ _ _ (c.write_body.ensures.any_moment told) (c.write_at.ensures.called.time)
    (gate_images _ _ c.args.place 0 _ _ _ body only (c.write_at.ensures.images)))
    (c.sync.ensures.called.time)
    (λ image left. gate_images _ _ c.args.place 0 _ _ _ body only (c.write_at.ensures.images) image (c.sync.ensures.writes_none.images image left))

pub returns-clause-any_moment : goal.returns-clause-any_moment
returns-clause-any_moment g c = λ told.
    let (body, only) = c.in_ok-write_body.ensures.written told in
    let told_then = subst IsTrue (sym c.write_body.ensures.run.tells) told in
    let told_last = subst IsTrue (sym c.write_at.ensures.called.tells) told_then in
    leaves_only_then _ _ _ _
    (leaves_only_then _ _ _ _ (c.write_body.ensures.any_moment told) (c.write_at.ensures.called.time)
    (gate_images _ _ c.args.place 0 _ _ _ body only (c.write_at.ensures.images)))
    (c.sync.ensures.called.time)
    (λ image left. gate_images _ _ c.args.place 0 _ _ _ body only (c.write_at.ensures.images) image (c.sync.ensures.writes_none.images image left))

pub returns-in_err-write_at-clause-torn : goal.returns-in_err-write_at-clause-torn
returns-in_err-write_at-clause-torn g c = λ told.
    let told_then = subst IsTrue (sym c.write_body.ensures.run.tells) told in
    torn_record c.args.place (length c.args.draft.now) _ _ _ (c.write_body.ensures.torn told) (c.in_err-write_at.ensures.torn told_then)

pub returns-in_err-sync-clause-torn : goal.returns-in_err-sync-clause-torn
returns-in_err-sync-clause-torn g c = λ told.
    let told_then = subst IsTrue (sym c.write_body.ensures.run.tells) told in
    let inside : c.args.place ≤ length (g.D.Disk.state c.write_body.new.disk).seen = omega (arith, g.met.D.Disk.sized c.write_body.new.disk told_then, c.in_ok-write_body.ensures.size) in
    subst (λ bytes. Torn c.args.place (6 + length c.args.draft.now) (g.D.Disk.state c.args.disk.now).seen bytes) (sym c.sync.ensures.writes_none.seen)
    (torn_record c.args.place (length c.args.draft.now) _ _ _ (c.write_body.ensures.torn told) (torn_held c.args.place (1 ∷ []) _ _ inside (c.in_ok-write_at.ensures.written told_then)))

pub returns-clause-torn : goal.returns-clause-torn
returns-clause-torn g c = λ told.
    let told_then = subst IsTrue (sym c.write_body.ensures.run.tells) told in
    let inside : c.args.place ≤ length (g.D.Disk.state c.write_body.new.disk).seen = omega (arith, g.met.D.Disk.sized c.write_body.new.disk told_then, c.in_ok-write_body.ensures.size) in
    subst (λ bytes. Torn c.args.place (6 + length c.args.draft.now) (g.D.Disk.state c.args.disk.now).seen bytes) (sym c.sync.ensures.writes_none.seen)
    (torn_record c.args.place (length c.args.draft.now) _ _ _ (c.write_body.ensures.torn told) (torn_held c.args.place (1 ∷ []) _ _ inside (c.in_ok-write_at.ensures.written told_then)))
