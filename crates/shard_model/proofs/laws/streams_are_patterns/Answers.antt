use Rattle.shard_model.specs.laws.StreamLaws.{learned_of_both, streams_of_both, number_stays}
use Rattle.shard_model.proofs.laws.streams_are_patterns.Goals as goal

pub returns-clause-learned : goal.returns-clause-learned
returns-clause-learned c = learned_of_both

pub returns-clause-streams : goal.returns-clause-streams
returns-clause-streams c = streams_of_both

pub returns-clause-numbers : goal.returns-clause-numbers
returns-clause-numbers c = number_stays
