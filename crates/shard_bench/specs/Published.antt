-- The message that is appended, and the groups of it that a shard may be asked.
use Rattle.std.specs.Prelude.{ℕ, ◌≡◌, true, List, [], ◌∷◌, None, replicate, refl}
use Rattle.topic_model.specs.Profile.{Config}
use Rattle.topic_name.specs.KeptMessage.{KeptMessage}
use Rattle.record_codec.specs.Computing.{reading}
use Rattle.record_codec.specs.declared.group.Op.{Op}
use Rattle.record_codec.specs.declared.group.Op.TheVariants.{Store}
use Rattle.group_plan.specs.Asking.{may_ask}
use Rattle.shard_fold.specs.declared.asked.Asked.{Asked}

-- client `p` publishes a hundred bytes to `a/b` with QoS 1
abbrev pub hundred : KeptMessage
hundred =
    record {
      stored =
          record {
            offset = 0;
            publisher = 112 ∷ [];
            incarnation = 1;
            id = 0;
            qos = 1;
            stamp = 0;
            expiry = None;
            topic = (97 ∷ []) ∷ (98 ∷ []) ∷ [];
            props = [];
            payload = replicate 100 120;
          };
      place = None;
    }

abbrev pub whole_generation : Config
whole_generation = record { shards = 1; workers = 1; top = 100; below = 10; messages = 32768; retention = 0 }

-- shard 0 of it
abbrev pub asked_for : Asked
asked_for = record { config = record { shards = 1; workers = 1; top = 100; below = 10; messages = 32768; retention = 0 }; shard = 0 }

pub may_ask_one : may_ask whole_generation (Store hundred ∷ []) ≡ true
unfolding reading
may_ask_one = refl

pub may_ask_many : may_ask whole_generation (replicate 64 (Store hundred)) ≡ true
unfolding reading
may_ask_many = refl
