-- What follows for a group that may be asked.
use Rattle.std.proofs.Common.{◌≡◌, ◌≤◌, true, ◌&&◌, nat_le, List, length}
use Rattle.std.specs.List.{list_all}
use Rattle.std.proofs.lemmas.Bool.{and_parts, leb-true}
use Rattle.topic_model.specs.Profile.{Config, whole}
use Rattle.record_codec.specs.declared.formats.TheConstants.{MOST_OPERATIONS}
use Rattle.record_codec.specs.declared.group.Op.{Op}
use Rattle.record_codec.specs.Records.{messages_of}
use Rattle.record_codec.specs.Sizes.{stores_size}
use Rattle.group_plan.specs.Plan.{fit_alone}
use Rattle.group_plan.specs.Asking.{are_few, forget_count, forgets_first, is_of_client, may_ask, most_stores}

-- it has few operations
pub asked_few : (config : Config) (ops : List Op) → may_ask config ops ≡ true → length ops ≤ MOST_OPERATIONS
asked_few config ops asks =
    let few = (and_parts (are_few config ops) (list_all is_of_client ops && fit_alone ops) asks).0 in
    leb-true (length ops) MOST_OPERATIONS
    (and_parts (nat_le (length ops) MOST_OPERATIONS) ((forgets_first ops && nat_le (forget_count ops) whole.forgets) && (nat_le (length (messages_of ops)) (most_stores config) && nat_le (stores_size ops) whole.group_bytes)) few).0

-- and each can be written
pub asked_fit : (config : Config) (ops : List Op) → may_ask config ops ≡ true → fit_alone ops ≡ true
asked_fit config ops asks =
    let each = (and_parts (are_few config ops) (list_all is_of_client ops && fit_alone ops) asks).1 in
    (and_parts (list_all is_of_client ops) (fit_alone ops) each).1
