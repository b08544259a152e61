use Rattle.std.proofs.Common.{◌≡◌, IsTrue, List, [], ◌∷◌, sym, subst, ◌∙◌}
use Rattle.topic_name.specs.PlainConfig.{plain_config}
use Rattle.record_codec.specs.declared.group.Op.{Op}
use Rattle.record_codec.specs.declared.group.Op.TheVariants.{Store}
use Rattle.shard_fold.specs.declared.asked.Asked.{Asked}
use Rattle.group_plan.specs.Asking.{may_ask}
use Rattle.plain_shards.specs.KeptShards.{config_of}
use Rattle.shard_tests.specs.Published.{hello, may_publish_to_two, two_shards}
use Rattle.shard_tests.proofs.view_rows.viewed.Goals as goal

pub append-done-requires-clause-asked : goal.append-done-requires-clause-asked
append-done-requires-clause-asked c =
    let ops : c.deref.result.now ≡ Store hello ∷ [] = c.deref.ensures.value ∙ c.in_ok-ops.ensures in
    let asked = c.arm.ensures.asked ∙ c.in_ok-shards.ensures.asked in
    subst (λ (l : List Asked). IsTrue (may_ask (plain_config (config_of l)) c.deref.result.now)) (sym asked)
    (subst (λ (o : List Op). IsTrue (may_ask two_shards o)) (sym ops) may_publish_to_two)
