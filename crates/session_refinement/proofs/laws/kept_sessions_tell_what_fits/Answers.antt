use Rattle.session_refinement.specs.laws.FitLaws.{suits_agree, within_agrees}
use Rattle.session_refinement.specs.laws.SessionLaws.{are_within_agree, fits_agree}
use Rattle.session_refinement.specs.laws.BatchFitLaws.{batch_fits}
use Rattle.session_refinement.proofs.laws.kept_sessions_tell_what_fits.Goals as goal

pub returns-clause-suits : goal.returns-clause-suits
returns-clause-suits c = suits_agree

pub returns-clause-within : goal.returns-clause-within
returns-clause-within c = within_agrees

pub returns-clause-are_within : goal.returns-clause-are_within
returns-clause-are_within c = are_within_agree

pub returns-clause-fits : goal.returns-clause-fits
returns-clause-fits c = fits_agree

pub returns-clause-batch : goal.returns-clause-batch
returns-clause-batch c = batch_fits
