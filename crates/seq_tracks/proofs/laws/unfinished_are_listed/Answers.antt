use Rattle.seq_tracks.specs.IdentifierLaws.{has-unfinished}
use Rattle.seq_tracks.proofs.laws.unfinished_are_listed.Goals as goal

pub returns : goal.returns
returns c = has-unfinished
