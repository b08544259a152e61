use Rattle.std.proofs.Common.{IsTrue, subst}
use Rattle.outside.specs.DiskModel.{leaves_only_weaker}
use Rattle.gated_log.proofs.LogLemmas.{log_has, log_still_has}
use Rattle.gated_log.proofs.log.Log.entry.Goals as goal

pub returns-clause-any_moment : goal.returns-clause-any_moment
returns-clause-any_moment g c = rw (← c.self.view_is) (λ told.
    leaves_only_weaker _ _ _ _ (c.read_payload.ensures.any_moment told) (log_has _ _ _ _ _ _ _ _ c.self.invariant.0 told))

pub returns-clause-images : goal.returns-clause-images
returns-clause-images g c = λ told.
    log_still_has _ _ _ _ _ _ _ _ _ _ c.self.invariant.0 (subst IsTrue c.read_payload.ensures.run.tells told) c.read_payload.ensures.writes_none.seen c.read_payload.ensures.writes_none.images
