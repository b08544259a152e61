use Rattle.std.proofs.Common.{IsTrue, ◌<◌, length, subst, sym}
use Rattle.outside.specs.DiskModel.{leaves_only_weaker}
use Rattle.gated_log.specs.PlainLog.{PlainLog}
use Rattle.gated_log.proofs.PartLemmas.{short_payload}
use Rattle.gated_log.proofs.LogLemmas.{log_has, log_still_has}
use Rattle.gated_log.proofs.log.Log.part.Goals as goal

pub returns-clause-any_moment : goal.returns-clause-any_moment
returns-clause-any_moment g c = rw (← c.self.view_is) (λ told.
    leaves_only_weaker _ _ _ _ (c.read_payload.ensures.any_moment told) (log_has _ _ _ _ _ _ _ _ c.self.invariant.0 told))

pub returns-clause-images : goal.returns-clause-images
returns-clause-images g c = λ told.
    log_still_has _ _ _ _ _ _ _ _ _ _ c.self.invariant.0 (subst IsTrue c.read_payload.ensures.run.tells told) c.read_payload.ensures.writes_none.seen c.read_payload.ensures.writes_none.images

pub returns-clause-short : goal.returns-clause-short
returns-clause-short g c =
    let within = subst (λ (v : PlainLog g.row.D.Denot). c.args.k < length v.payloads) (sym c.self.view_is) c.requires.within in
    rw (← c.self.view_is) (short_payload (g.D.Disk.state c.self.inside.disk).seen c.self.inside.spans.items c.args.k c.index-span.result.now within c.index-span.ensures c.part_of.ensures.short)
