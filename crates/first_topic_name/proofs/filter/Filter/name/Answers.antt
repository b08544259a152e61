-- The text is its levels joined again.
use Rattle.std.proofs.Common.{sym}
use Rattle.first_topic_name.proofs.PiecesLemmas.{joined-pieces}
use Rattle.first_topic_name.proofs.filter.Filter.name.Goals as goal

pub returns-clause-text : goal.returns-clause-text
returns-clause-text c = rw (← c.self.view_is) (sym (joined-pieces 47 c.self.inside.name))
