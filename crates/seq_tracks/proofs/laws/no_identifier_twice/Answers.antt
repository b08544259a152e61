use Rattle.seq_tracks.specs.IdentifierLaws.{identifiers_once}
use Rattle.seq_tracks.proofs.laws.no_identifier_twice.Goals as goal

pub returns : goal.returns
returns c = identifiers_once
