use Rattle.shard_index.proofs.ListLemmas.{newest_at}
use Rattle.shard_index.proofs.lists.newest_in.Goals as goal

pub returns : goal.returns
returns c = newest_at c.args.cuts.now _ c.requires
