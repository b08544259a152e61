use Rattle.topic_model.specs.laws.TextsLaws.{topic_text, filter_text}
use Rattle.topic_model.proofs.laws.accepted_texts_have_no_fault.Goals as goal

pub returns-clause-topics : goal.returns-clause-topics
returns-clause-topics c = topic_text

pub returns-clause-filters : goal.returns-clause-filters
returns-clause-filters c = filter_text
