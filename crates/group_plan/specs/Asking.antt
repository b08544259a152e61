-- What a group may ask of a shard.
use Rattle.std.specs.Prelude.{ℕ, Bool, true, false, ◌&&◌, not, nat_le, min, List, [], ◌∷◌, length}
use Rattle.std.specs.List.{list_all, sum_by}
use Rattle.topic_model.specs.Profile.{Config, whole}
use Rattle.record_codec.specs.declared.formats.TheConstants.{MOST_OPERATIONS}
use Rattle.record_codec.specs.declared.group.Op.{Op}
use Rattle.record_codec.specs.declared.group.Op.TheVariants.{Store, Release, Forget}
use Rattle.record_codec.specs.Records.{messages_of}
use Rattle.record_codec.specs.Sizes.{stores_size}
use Rattle.group_plan.specs.Plan.{fit_alone}

abbrev pub is_forget : Op → Bool
is_forget (Store m) = false
is_forget (Release publisher incarnation id) = false
is_forget (Forget publisher incarnation) = true

-- Forgets stand first
abbrev pub forgets_first : List Op → Bool
forgets_first [] = true
forgets_first (Store m ∷ ops) = list_all (λ (op : Op). not (is_forget op)) ops
forgets_first (Release publisher incarnation id ∷ ops) = list_all (λ (op : Op). not (is_forget op)) ops
forgets_first (Forget publisher incarnation ∷ ops) = forgets_first ops

abbrev forgets_one : Op → ℕ
forgets_one (Store m) = 0
forgets_one (Release publisher incarnation id) = 0
forgets_one (Forget publisher incarnation) = 1

abbrev pub forget_count : List Op → ℕ
forget_count ops = sum_by forgets_one ops

-- a publisher is a client identifier
abbrev pub is_client : List ℕ → Bool
is_client publisher = nat_le (length publisher) whole.client

abbrev pub is_of_client : Op → Bool
is_of_client (Store m) = is_client m.stored.publisher
is_of_client (Release publisher incarnation id) = is_client publisher
is_of_client (Forget publisher incarnation) = is_client publisher

abbrev pub most_stores : Config → ℕ
most_stores config = min whole.group config.messages

-- few operations, of which few are Forgets, which stand first, and few are Stores, which are short together
abbrev pub are_few : Config → List Op → Bool
are_few config ops =
    nat_le (length ops) MOST_OPERATIONS
    && ((forgets_first ops && nat_le (forget_count ops) whole.forgets)
    && (nat_le (length (messages_of ops)) (most_stores config) && nat_le (stores_size ops) whole.group_bytes))

-- and each operation is of a client, and can be written
abbrev pub may_ask : Config → List Op → Bool
may_ask config ops = are_few config ops && (list_all is_of_client ops && fit_alone ops)
