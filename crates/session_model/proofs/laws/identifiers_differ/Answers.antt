use Rattle.session_model.specs.laws.IdentifierLaws.{identifiers_once}
use Rattle.session_model.proofs.laws.identifiers_differ.Goals as goal

pub returns : goal.returns
returns c = identifiers_once
