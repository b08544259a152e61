use Rattle.first_shard_terms.proofs.Storing.{Adds-store, cuts-store}
use Rattle.first_shard_terms.proofs.laws.storing_only_adds.Goals as goal

pub returns-clause-messages : goal.returns-clause-messages
returns-clause-messages c = Adds-store

pub returns-clause-cuts : goal.returns-clause-cuts
returns-clause-cuts c = cuts-store
