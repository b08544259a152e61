-- The state of the world between two lines is that of the plain broker, and a ghost.
use Rattle.first_world_terms.proofs.PlainRuns.{every_run_prints}
use Rattle.first_world_terms.proofs.laws.plain_runs_are_runs.Goals as goal

pub returns : goal.returns
returns c = every_run_prints
