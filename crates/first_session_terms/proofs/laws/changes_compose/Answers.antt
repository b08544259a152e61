use Rattle.first_session_terms.proofs.Changes.{act_all-append}
use Rattle.first_session_terms.proofs.laws.changes_compose.Goals as goal

pub returns : goal.returns
returns c = act_all-append
