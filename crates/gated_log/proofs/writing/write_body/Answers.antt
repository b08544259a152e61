use Rattle.std.proofs.Common.{◌+◌, IsTrue, length, inl, inr, subst, sym}
use Rattle.outside.specs.DiskModel.{Holds}
use Rattle.outside.specs.Results.{on_err}
use Rattle.gated_log.specs.Records.{records}
use Rattle.gated_log.specs.Stands.{StandsWith}
use Rattle.gated_log.proofs.CommitLemmas.{body_images}
use Rattle.gated_log.proofs.CrashLemmas.{body_written, body_torn}
use Rattle.gated_log.proofs.writing.write_body.Goals as goal

-- the write failed: the gate is closed
pub returns-in_err-write_at-clause-doubt : goal.returns-in_err-write_at-clause-doubt
returns-in_err-write_at-clause-doubt g c = on_err c.from_residual.result (λ told.
    let (stands, only) = c.requires.stands told in
    record {
      reads = inl (body_torn _ c.args.place (length c.body.result.now) _ _ stands (c.in_err-write_at.ensures.torn told));
      each = body_images _ c.args.draft.now c.args.place (length c.body.result.now) _ _ _ stands only (c.write_at.ensures.images);
    })

-- the sync failed: the body is read behind a closed gate
pub returns-in_err-sync-clause-doubt : goal.returns-in_err-sync-clause-doubt
returns-in_err-sync-clause-doubt g c = on_err c.from_residual-in_err-sync.result (λ told.
    let (stands, only) = c.requires.stands told in
    let told_then = subst IsTrue (sym c.write_at.ensures.called.tells) told in
    let holds = subst (λ bytes. Holds (g.D.Disk.state c.args.disk.now).seen (c.args.place + 1) bytes (g.D.Disk.state c.write_at.new.self).seen) c.body.ensures.body (c.in_ok-write_at.ensures.written told) in
    record {
      reads = inr (0, subst (λ bytes. StandsWith (records (g.D.Disk.state c.args.disk.now).seen) c.args.draft.now c.args.place 0 bytes) (sym (c.sync.ensures.writes_none.seen)) (body_written _ _ c.args.place _ _ stands holds));
      each = λ image left. body_images _ c.args.draft.now c.args.place (length c.body.result.now) _ _ _ stands only (c.write_at.ensures.images) image (c.sync.ensures.writes_none.images image left);
    })
