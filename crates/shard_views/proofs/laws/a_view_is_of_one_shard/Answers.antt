use Rattle.shard_views.specs.ViewLaws.{as_many, stands_elsewhere, stands_here}
use Rattle.shard_views.proofs.laws.a_view_is_of_one_shard.Goals as goal

pub returns : goal.returns
returns c = record {
  here = λ shard standing seen r short. stands_here r.shards shard (record { standing = standing; seen = seen }) short;
  elsewhere = λ shard other standing seen r differs. stands_elsewhere r.shards shard other (record { standing = standing; seen = seen }) differs;
  count = λ shard standing seen r. as_many r.shards shard (record { standing = standing; seen = seen });
}
