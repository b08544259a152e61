use Rattle.shard_fold.specs.OrderLaws.{folded_kept}
use Rattle.shard_fold.proofs.laws.folded_in_order.Goals as goal

pub returns : goal.returns
returns c = folded_kept
