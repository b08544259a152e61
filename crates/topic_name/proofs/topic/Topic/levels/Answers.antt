use Rattle.topic_model.specs.laws.LevelsLaws.{some_level}
use Rattle.topic_model.specs.laws.TextsLaws.{topic_text}
use Rattle.topic_name.proofs.topic.Topic.levels.Goals as goal

pub returns-clause-some : goal.returns-clause-some
returns-clause-some c = rw (← c.self.view_is) (some_level c.self.inside.name)

pub returns-clause-few : goal.returns-clause-few
returns-clause-few c = rw (← c.self.view_is) ((topic_text c.self.inside.name c.self.invariant).few_levels)
