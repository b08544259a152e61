use Rattle.seq_tracks.specs.AgreeLaws.{acked_fits, received_fits, done_fits, passed_fits}
use Rattle.seq_tracks.proofs.laws.tracks_tell_what_fits.Goals as goal

pub returns-clause-acked : goal.returns-clause-acked
returns-clause-acked c = acked_fits

pub returns-clause-received : goal.returns-clause-received
returns-clause-received c = received_fits

pub returns-clause-done : goal.returns-clause-done
returns-clause-done c = done_fits

pub returns-clause-passed : goal.returns-clause-passed
returns-clause-passed c = passed_fits
