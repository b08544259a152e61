use Rattle.std.proofs.Common.{◌≡◌, IsTrue, List, [], ◌∷◌, sym, subst}
use Rattle.topic_name.specs.PlainConfig.{plain_config}
use Rattle.record_codec.specs.declared.group.Op.{Op}
use Rattle.group_plan.specs.Asking.{may_ask}
use Rattle.shard_fold.specs.declared.asked.Asked.{Asked}
use Rattle.shard_tests.specs.Published.{may_publish, one_shard}
use Rattle.shard_tests.proofs.full_rows.refused.Goals as goal

pub append-requires : goal.append-requires
append-requires c = record {
  asked = subst (λ (a : Asked). IsTrue (may_ask (plain_config a.config) c.args.ops.now)) (sym c.requires.asked)
      (subst (λ (o : List Op). IsTrue (may_ask one_shard o)) (sym c.requires.ops) may_publish);
}
