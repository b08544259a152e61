-- The message that the tests publish, as a group may ask for it.
use Rattle.std.specs.Prelude.{◌≡◌, true, List, [], ◌∷◌, None, refl}
use Rattle.topic_model.specs.Profile.{Config}
use Rattle.topic_name.specs.KeptMessage.{KeptMessage}
use Rattle.record_codec.specs.declared.group.Op.{Op}
use Rattle.record_codec.specs.declared.group.Op.TheVariants.{Store}
use Rattle.record_codec.specs.Computing.{reading}
use Rattle.group_plan.specs.Asking.{may_ask}

-- client `p` publishes `hi` to `a/b` with QoS 1, in its session with incarnation 2
abbrev pub hello : KeptMessage
hello =
    record {
      stored =
          record {
            offset = 0;
            publisher = 112 ∷ [];
            incarnation = 2;
            id = 0;
            qos = 1;
            stamp = 0;
            expiry = None;
            topic = (97 ∷ []) ∷ (98 ∷ []) ∷ [];
            props = [];
            payload = 104 ∷ 105 ∷ [];
          };
      place = None;
    }

abbrev pub one_shard : Config
one_shard = record { shards = 1; workers = 1; top = 1; below = 1; messages = 3; retention = 0 }

pub may_publish : may_ask one_shard (Store hello ∷ []) ≡ true
unfolding reading
may_publish = refl

abbrev pub two_shards : Config
two_shards = record one_shard { shards = 2 }

pub may_publish_to_two : may_ask two_shards (Store hello ∷ []) ≡ true
unfolding reading
may_publish_to_two = refl
