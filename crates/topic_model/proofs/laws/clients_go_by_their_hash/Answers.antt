use Rattle.topic_model.specs.laws.RoutingLaws.{shard_by_hash, worker_by_hash}
use Rattle.topic_model.proofs.laws.clients_go_by_their_hash.Goals as goal

pub returns-clause-shard : goal.returns-clause-shard
returns-clause-shard c = shard_by_hash

pub returns-clause-worker : goal.returns-clause-worker
returns-clause-worker c = worker_by_hash
