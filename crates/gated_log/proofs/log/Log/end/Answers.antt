use Rattle.gated_log.proofs.LogLemmas.{log_end}
use Rattle.gated_log.proofs.log.Log.end.Goals as goal

pub returns-clause-behind_records : goal.returns-clause-behind_records
returns-clause-behind_records g c = rw (← c.self.view_is) (λ kept told. log_end _ _ _ _ _ _ _ _ c.self.invariant.0 kept told)
