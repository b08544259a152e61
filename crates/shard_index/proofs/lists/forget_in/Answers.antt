use Rattle.std.proofs.Common.{not, rules}
use Rattle.std.proofs.lemmas.Fn.{filter_same}
use Rattle.shard_model.specs.ShardList.{Awaited}
use Rattle.shard_model.specs.Storing.{is_of}
use Rattle.shard_index.proofs.lists.forget_in.Goals as goal

pub returns : goal.returns
returns c =
    filter_same _ (λ (a : Awaited). not (is_of c.args.publisher.now.name c.args.publisher.now.incarnation a)) _ (λ x b q h. search rules) _ _ c.retain.ensures.filtered
