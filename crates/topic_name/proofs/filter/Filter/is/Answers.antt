use Rattle.topic_name.proofs.TextsLemmas.{same_texts, same_levels}
use Rattle.topic_name.proofs.filter.Filter.is.Goals as goal

pub returns-clause-texts : goal.returns-clause-texts
returns-clause-texts c =
    rw (← c.self.view_is, ← c.other.view_is) (same_texts c.self.inside.name c.other.inside.name c.is.result c.is.ensures)

pub returns-clause-levels : goal.returns-clause-levels
returns-clause-levels c =
    rw (← c.self.view_is, ← c.other.view_is) (same_levels c.self.inside.name c.other.inside.name c.is.result c.is.ensures)
