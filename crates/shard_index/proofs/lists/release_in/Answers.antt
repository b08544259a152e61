use Rattle.std.proofs.Common.{◌∙◌}
use Rattle.shard_index.proofs.ListLemmas.{removed_is_filtered}
use Rattle.shard_index.proofs.lists.release_in.Goals as goal

pub returns : goal.returns
returns c = c.shift_remove.ensures.keys ∙ removed_is_filtered c.args.released.now c.args.awaited.now.keys c.len-unique.ensures.unique
