use Rattle.gated_log.proofs.LogLemmas.{log_has}
use Rattle.gated_log.proofs.log.Log.doubt.Goals as goal

pub returns-in-InDoubt-clause-images : goal.returns-in-InDoubt-clause-images
returns-in-InDoubt-clause-images g c = rw (← c.self.view_is) (λ told. log_has _ _ _ _ _ _ _ _ c.self.invariant.0 told)
