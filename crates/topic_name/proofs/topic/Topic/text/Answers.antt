-- The text is its levels joined again.
use Rattle.std.proofs.Common.{sym, ◌∙◌}
use Rattle.topic_model.specs.laws.LevelsLaws.{text_of-levels_of}
use Rattle.topic_name.proofs.topic.Topic.text.Goals as goal

pub returns-clause-text : goal.returns-clause-text
returns-clause-text c = rw (← c.self.view_is) (c.text.ensures ∙ sym (text_of-levels_of c.self.inside.name))
