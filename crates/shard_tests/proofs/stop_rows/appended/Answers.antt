use Rattle.std.proofs.Common.{◌≡◌, IsTrue, List, [], ◌∷◌, sym, ap, subst, ◌∙◌}
use Rattle.topic_name.specs.PlainConfig.{plain_config}
use Rattle.record_codec.specs.declared.group.Op.{Op}
use Rattle.record_codec.specs.declared.group.Op.TheVariants.{Store}
use Rattle.group_plan.specs.Asking.{may_ask}
use Rattle.shard_fold.specs.declared.asked.Asked.{Asked}
use Rattle.shard_log.specs.PlainShardLog.{PlainShardLog}
use Rattle.shard_tests.specs.Published.{hello, may_publish, one_shard}
use Rattle.shard_tests.proofs.stop_rows.appended.Goals as goal

pub append-requires : goal.append-requires
append-requires c =
    let ops : c.deref.result.now ≡ Store hello ∷ [] = c.deref.ensures.value ∙ c.in_ok-ops.ensures in
    let asked = ap (λ s. s.asked) c.arm.ensures.arms.stays ∙ c.in_ok-log.ensures.one in
    record {
      asked = subst (λ (a : Asked). IsTrue (may_ask (plain_config a.config) c.deref.result.now)) (sym asked)
          (subst (λ (o : List Op). IsTrue (may_ask one_shard o)) (sym ops) may_publish);
    }
