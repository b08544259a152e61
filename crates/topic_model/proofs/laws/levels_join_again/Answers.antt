use Rattle.topic_model.specs.laws.LevelsLaws.{text_of-levels_of}
use Rattle.topic_model.proofs.laws.levels_join_again.Goals as goal

pub returns : goal.returns
returns c = λ text. text_of-levels_of text
