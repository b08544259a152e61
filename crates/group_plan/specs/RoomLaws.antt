-- Whether there is room is told by numbers, and a group for which there is room has a spelling, which is short.
use Rattle.std.proofs.Common.{◌≡◌, ℕ, ◌+◌, ◌*◌, ◌<◌, ◌≤◌, ◌^◌, nat_lt, nat_le, min, ◌-◌, Bool, true, false, not, ◌&&◌, ◌||◌, List, [], ◌∷◌, ◌++◌, length, is_none, refl, sym, ap, ◌∙◌, lt-ltb, le-leb, eq-eqb, arith}
use Rattle.std.specs.List.{sum_by}
use Rattle.std.specs.Cmp.Derive.{both_true}
use Rattle.std.proofs.lemmas.Bool.{and_parts, ltb-true}
use Rattle.std.proofs.lemmas.Bool.Decides.{nat_tests}
use Rattle.std.proofs.Math.Bool.{and-true}
use Rattle.std.proofs.lemmas.List.{length-append}
use Rattle.std.proofs.lemmas.List.Sums.{sum_by-append, sum_by-cons}
use Rattle.topic_model.specs.Profile.{whole}
use Rattle.topic_model.specs.StoredMessage.{StoredMessage}
use Rattle.wire_fields.specs.Text.{is_text}
use Rattle.topic_name.specs.KeptMessage.{KeptMessage}
use Rattle.shard_model.specs.ShardList.{ShardList, newest, newest_messages, next_of}
use Rattle.shard_model.specs.Storing.{Op as PlainOp, placed, stores_of}
use Rattle.shard_model.specs.Capacity.{has_stores, fits, learns_few_or_within, passes_the_last, store_size}
use Rattle.shard_index.specs.Absorbing.{limits}
use Rattle.shard_index.specs.Sound.{newest_bytes}
use Rattle.shard_index.specs.SoundLaws.{learns_anyway}
use Rattle.session_codec.specs.HasSpelling.{fits_u16, fits_u64, fits_text}
use Rattle.record_codec.specs.declared.formats.TheConstants.{MOST_OPERATIONS}
use Rattle.record_codec.specs.declared.group.Op.{Op}
use Rattle.record_codec.specs.declared.group.Op.TheVariants.{Store, Release, Forget}
use Rattle.record_codec.specs.Records.{KeptGroup, messages_of, offsets_of, plain_ops}
use Rattle.record_codec.specs.Spelling.{spelled_group}
use Rattle.record_codec.specs.HasSpelling.{all_in_turn, fits_delivery, fits_expiry, fits_topic, fits_props, fits_blob, fits_message, fits_op, fits_sender, fits_store, group_has_spelling}
use Rattle.record_codec.specs.Sizes.{op_size, counted_size, stores_size}
use Rattle.record_codec.specs.SizeLaws.{group_sized, stores_counted}
use Rattle.group_plan.specs.Plan.{fits_store_alone, fits_op_alone, fit_alone, lacks_room, written_at, written_message}
use Rattle.group_plan.specs.Keeping.{written_from}
use Rattle.group_plan.specs.Room.{takes_more}

-- ---- room by numbers

fits_is : (list : ShardList) (kept : List PlainOp) → fits limits list kept
    ≡ (nat_le (length (newest_messages list) + length (stores_of kept)) (newest list).messages
    && nat_le (newest_bytes list + sum_by store_size (stores_of kept)) whole.generation_bytes)
fits_is list kept =
    let ms = newest_messages list ++ stores_of kept in
    ap (λ n. nat_le n (newest list).messages && (nat_le (sum_by store_size ms) whole.generation_bytes && learns_few_or_within limits (newest list) ms))
    (length-append (newest_messages list) (stores_of kept))
    ∙ ap (λ n. nat_le (length (newest_messages list) + length (stores_of kept)) (newest list).messages
    && (nat_le n whole.generation_bytes && learns_few_or_within limits (newest list) ms))
    (sum_by-append store_size (newest_messages list) (stores_of kept))
    ∙ ap (λ b. nat_le (length (newest_messages list) + length (stores_of kept)) (newest list).messages
    && (nat_le (newest_bytes list + sum_by store_size (stores_of kept)) whole.generation_bytes && b))
    (learns_anyway (newest list) ms)
    ∙ ap (λ b. nat_le (length (newest_messages list) + length (stores_of kept)) (newest list).messages && b)
    (and-true (nat_le (newest_bytes list + sum_by store_size (stores_of kept)) whole.generation_bytes))

-- there are messages, and the newest generation doesn't take them
pub room_is : (list : ShardList) (kept : List PlainOp) → lacks_room list kept
    ≡ (has_stores kept && not (takes_more list (length (stores_of kept)) (sum_by store_size (stores_of kept))))
room_is list kept =
    ap (λ b. (has_stores kept && not b) || (has_stores kept && passes_the_last false list kept)) (fits_is list kept)
    ∙ by (has_stores kept) (nat_le (length (newest_messages list) + length (stores_of kept)) (newest list).messages)
    (nat_le (newest_bytes list + sum_by store_size (stores_of kept)) whole.generation_bytes) (next_of list + length (stores_of kept))
  where
    ends : (n : ℕ) → nat_le (2 ^ 64) n ≡ not (nat_lt n (2 ^ 64))
    ends n = grind (arith, nat_tests)

    by : (has count bytes : Bool) (next : ℕ) → ((has && not (count && bytes)) || (has && (nat_le (2 ^ 64) next || false)))
        ≡ (has && not (count && (bytes && nat_lt next (2 ^ 64))))
    by false count bytes next = refl
    by true false bytes next = refl
    by true true false next = refl
    by true true true next = either (nat_le (2 ^ 64) next) (nat_lt next (2 ^ 64)) (ends next)
      where
        either : (a b : Bool) → a ≡ not b → (a || false) ≡ not b
        either true b e = e
        either false b e = e

-- ---- how many messages there are, and their bytes

pub stores_more : (op : Op) (ops : List Op) → length (messages_of (op ∷ ops)) ≡ offsets_of op + length (messages_of ops)
stores_more (Store m) ops = omega arith
stores_more (Release publisher incarnation id) ops = omega arith
stores_more (Forget publisher incarnation) ops = omega arith

pub one_at_most : (op : Op) → offsets_of op ≤ 1
one_at_most (Store m) = omega arith
one_at_most (Release publisher incarnation id) = omega arith
one_at_most (Forget publisher incarnation) = omega arith

-- a sum that stops at the greatest number fits where the sum does
saturated_fits : (held size : ℕ) → nat_le (held + min size (2 ^ 64 - 1)) whole.generation_bytes ≡ nat_le (held + size) whole.generation_bytes
saturated_fits held size = grind (arith, nat_tests)

-- what is tested of operations by their count and their bytes
pub lacks_by : (list : ShardList) (ops : List Op) (count bytes : ℕ) (takes : Bool) → count ≡ length (messages_of ops) → (count ≡ 0 → ⊥) → bytes ≡ min (stores_size ops) (2 ^ 64 - 1) →
    takes ≡ takes_more list count bytes → not takes ≡ lacks_room list (plain_ops ops)
lacks_by list ops count bytes takes counted some size is =
    ap not is
    ∙ ap (λ n. not (takes_more list count n)) size
    ∙ ap (λ b. not (nat_le (length (newest_messages list) + count) (newest list).messages && (b && nat_lt (next_of list + count) (2 ^ 64)))) (saturated_fits (newest_bytes list) (stores_size ops))
    ∙ ap (λ n. not (takes_more list count n)) (stores_counted ops)
    ∙ ap (λ n. not (takes_more list n (sum_by store_size (messages_of ops)))) counted
    ∙ ap (λ b. b && not (takes_more list (length (messages_of ops)) (sum_by store_size (messages_of ops)))) (sym (lt-ltb 0 (length (messages_of ops)) (omega arith)))
    ∙ sym (room_is list (plain_ops ops))

-- ---- a spelling

-- a stamp that can be told takes the place of another
restamped : (before stamp other behind : Bool) → (before && (stamp && behind)) ≡ true → other ≡ true → (before && (other && behind)) ≡ true
restamped before stamp other behind h is =
    let parts = and_parts before (stamp && behind) h in both_true parts.0 (both_true is (and_parts stamp behind parts.1).1)

fits_placed : (m : StoredMessage) (offset now : ℕ) → fits_u64 now ≡ true → fits_message m ≡ true → fits_message (placed m offset now) ≡ true
fits_placed m offset now is h =
    let parts = and_parts (fits_sender m.publisher m.incarnation) (fits_delivery m.id m.qos && (fits_u64 m.stamp && (fits_expiry m.expiry && (fits_topic m.topic && (fits_props m.props && fits_blob m.payload))))) h in
    both_true parts.0 (restamped (fits_delivery m.id m.qos) (fits_u64 m.stamp) (fits_u64 now) (fits_expiry m.expiry && (fits_topic m.topic && (fits_props m.props && fits_blob m.payload))) parts.1 is)

fits_written : (m : KeptMessage) (offset now : ℕ) → fits_u64 now ≡ true → offset < 2 ^ 64 → fits_store_alone m ≡ true → fits_store offset (written_message now offset m) ≡ true
fits_written m offset now is less h =
    let parts = and_parts (is_none m.place) (nat_le m.stored.qos 2 && fits_message m.stored) h in
    let message = (and_parts (nat_le m.stored.qos 2) (fits_message m.stored) parts.1).1 in
    both_true (both_true (eq-eqb offset offset refl) (lt-ltb offset (2 ^ 64) less)) (fits_placed m.stored offset now is message)

fits_in_turn : (ops : List Op) (now offset : ℕ) → fits_u64 now ≡ true → (0 < length (messages_of ops) → offset + length (messages_of ops) < 2 ^ 64) → fit_alone ops ≡ true →
    all_in_turn fits_op offsets_of offset (written_from now offset ops) ≡ true
fits_in_turn [] now offset is ends fit = refl
fits_in_turn (Store m ∷ ops) now offset is ends fit =
    let parts = and_parts (fits_store_alone m) (fit_alone ops) fit in
    let end : offset + length (messages_of (Store m ∷ ops)) < 2 ^ 64 = ends (omega arith) in
    both_true (fits_written m offset now is (omega arith) parts.0) (fits_in_turn ops now (offset + 1) is (λ some. omega arith) parts.1)
fits_in_turn (Release publisher incarnation id ∷ ops) now offset is ends fit =
    let parts = and_parts (fits_op_alone (Release publisher incarnation id)) (fit_alone ops) fit in
    both_true parts.0 (fits_in_turn ops now (offset + 0) is (λ some. let end = ends some in omega arith) parts.1)
fits_in_turn (Forget publisher incarnation ∷ ops) now offset is ends fit =
    let parts = and_parts (fits_op_alone (Forget publisher incarnation)) (fit_alone ops) fit in
    both_true parts.0 (fits_in_turn ops now (offset + 0) is (λ some. let end = ends some in omega arith) parts.1)

pub written_long : (ops : List Op) (now offset : ℕ) → length (written_from now offset ops) ≡ length ops
written_long [] now offset = refl
written_long (op ∷ ops) now offset = let rest = written_long ops now (offset + offsets_of op) in omega arith

abbrev pub written_group : ℕ → ℕ → List Op → KeptGroup
written_group now first ops = record { first = first; ops = written_from now first ops }

-- what a group that can be written needs
pub record CanBeWritten (now first : ℕ) (ops : List Op) : Type 0 where
  pub some : 0 < length ops
  pub few : length ops ≤ MOST_OPERATIONS
  pub begins : first < 2 ^ 64
  pub moment : now < 2 ^ 64
  pub ends : 0 < length (messages_of ops) → first + length (messages_of ops) < 2 ^ 64
  pub fit : fit_alone ops ≡ true

pub can_be_written : (now first : ℕ) (ops : List Op) → CanBeWritten now first ops → group_has_spelling (written_group now first ops) ≡ true
can_be_written now first ops can =
    let long = written_long ops now first in
    let some = can.some in
    let few = can.few in
    both_true (lt-ltb first (2 ^ 64) can.begins)
    (both_true (both_true (lt-ltb 0 (length (written_from now first ops)) (omega arith)) (le-leb (length (written_from now first ops)) MOST_OPERATIONS (omega arith)))
    (fits_in_turn ops now first (lt-ltb now (2 ^ 64) can.moment) can.ends can.fit))

-- ---- how long it is

is_short : (publisher : List ℕ) (incarnation : ℕ) → fits_sender publisher incarnation ≡ true → length publisher < 2 ^ 16
is_short publisher incarnation h =
    let text = (and_parts (fits_text publisher) (fits_u64 incarnation) h).0 in
    ltb-true (length publisher) (2 ^ 16) (and_parts (fits_u16 (length publisher)) (is_text publisher) text).0

op_short : (op : Op) (now offset : ℕ) → fits_op_alone op ≡ true → op_size (written_at now offset op) ≤ counted_size op + 65548
op_short (Store m) now offset fit = omega arith
op_short (Release publisher incarnation id) now offset fit =
    let short = is_short publisher incarnation (and_parts (fits_sender publisher incarnation) (fits_u16 id) fit).0 in omega arith
op_short (Forget publisher incarnation) now offset fit = let short = is_short publisher incarnation fit in omega arith

ops_short : (ops : List Op) (now offset : ℕ) → fit_alone ops ≡ true → sum_by op_size (written_from now offset ops) ≤ stores_size ops + 65548 * length ops
ops_short [] now offset fit = omega arith
ops_short (op ∷ ops) now offset fit =
    let parts = and_parts (fits_op_alone op) (fit_alone ops) fit in
    let first = op_short op now offset parts.0 in
    let later = offset + offsets_of op in
    let rest : sum_by op_size (written_from now later ops) ≤ stores_size ops + 65548 * length ops = ops_short ops now later parts.1 in
    let sizes : sum_by op_size (written_at now offset op ∷ written_from now later ops) ≡ op_size (written_at now offset op) + sum_by op_size (written_from now later ops) =
    sum_by-cons op_size (written_at now offset op) (written_from now later ops) in
    let stores : stores_size (op ∷ ops) ≡ counted_size op + stores_size ops = sum_by-cons counted_size op ops in
    omega arith

-- with the bytes of a generation for its Stores, and 256 times 65,548 for the others
pub group_short : (now first : ℕ) (ops : List Op) → CanBeWritten now first ops → stores_size ops ≤ whole.generation_bytes →
    (1 ≤ length (spelled_group (written_group now first ops))) × (length (spelled_group (written_group now first ops)) ≤ 33600000)
group_short now first ops can bytes =
    let size : length (spelled_group (written_group now first ops)) ≡ 11 + sum_by op_size (written_from now first ops) = group_sized (written_group now first ops) in
    let short = ops_short ops now first can.fit in
    let few = can.few in
    (omega arith, omega arith)
