use Rattle.shard_index.specs.AbsorbLaws.{list_after, list_after_all, stored_at}
use Rattle.shard_index.proofs.laws.operations_show.Goals as goal

pub returns : goal.returns
returns c = record { one = list_after; all = list_after_all; look_up = stored_at }
