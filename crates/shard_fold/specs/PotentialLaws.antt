-- What a group takes of what its generation can still take.
use Rattle.std.proofs.Common.{◌≡◌, ℕ, suc, ◌+◌, ◌-◌, ◌*◌, ◌<◌, ◌≤◌, ◌^◌, Bool, true, false, ◌&&◌, ◌||◌, ◌==◌, not, nat_le, nat_lt, cond, List, [], ◌∷◌, ◌++◌, length, filter, All, IsTrue, refl, sym, ap, subst, ◌∙◌, leb-true, ltb-true, arith}
use Rattle.std.specs.List.{list_any, sum_by}
use Rattle.std.proofs.lemmas.Bool.{and_parts}
use Rattle.std.proofs.lemmas.List.{length-append}
use Rattle.std.proofs.lemmas.List.Elements.{All-tail}
use Rattle.std.proofs.lemmas.List.Filters.{length-filter_both}
use Rattle.std.proofs.lemmas.List.Sums.{sum_by-cons}
use Rattle.topic_model.specs.Profile.{whole}
use Rattle.topic_model.specs.StoredMessage.{StoredMessage}
use Rattle.shard_model.specs.ShardList.{Awaited, ShardList, newest, newest_messages, next_of}
use Rattle.shard_model.specs.Storing.{Store as PlainStore, act, act_if, acts, becomes_awaited, is_awaited_as, is_of, placed, triple_of}
use Rattle.shard_model.specs.Capacity.{fits, store_size}
use Rattle.shard_model.specs.Lists.{IsList}
use Rattle.shard_index.specs.Absorbing.{absorbed, absorbed_all, all_stand, has_place, limits, may_add, stands}
use Rattle.shard_index.specs.GrowLaws.{absorbed_all_grows}
use Rattle.shard_index.specs.Sound.{newest_bytes}
use Rattle.shard_index.specs.SoundLaws.{bytes_more, fits_means, newest_more, takes_one_more}
use Rattle.record_codec.specs.declared.group.Op.{Op}
use Rattle.record_codec.specs.declared.group.Op.TheVariants.{Store, Release, Forget}
use Rattle.record_codec.specs.declared.formats.TheConstants.{MOST_OPERATIONS}
use Rattle.record_codec.specs.Records.{KeptGroup, index_op, index_ops, offsets_of}
use Rattle.record_codec.specs.Spelling.{spelled_group}
use Rattle.record_codec.specs.HasSpelling.{all_in_turn, fit_ops, fits_op, group_has_spelling, is_op_count}
use Rattle.session_codec.specs.HasSpelling.{fits_u64}
use Rattle.record_codec.specs.Sizes.{op_size}
use Rattle.record_codec.specs.SizeLaws.{group_sized}
use Rattle.record_codec.specs.CountLaws.{group_told}
use Rattle.record_codec.specs.Taking.{IsToldOp}
use Rattle.record_codec.specs.Spells.{SpellsGroup}
use Rattle.shard_fold.specs.Fold.{goes_on}
use Rattle.shard_fold.specs.Potential.{awaited_share, message_share, potential}

-- ---- what is taken away

some_pass : {A : Type 0} (p : A → Bool) (xs : List A) → list_any p xs ≡ true → 1 ≤ length (filter p xs)
some_pass p [] any = absurd cc
some_pass p (x ∷ xs) any = by (p x) any (some_pass p xs)
  where
    by : (t : Bool) → (t || list_any p xs) ≡ true → (list_any p xs ≡ true → 1 ≤ length (filter p xs)) → 1 ≤ length (cond t (x ∷ filter p xs) (filter p xs))
    by true any rest = omega arith
    by false any rest = rest any

fewer_stay : {A : Type 0} (p : A → Bool) (xs : List A) → list_any p xs ≡ true → length (filter (λ x. not (p x)) xs) + 1 ≤ length xs
fewer_stay p xs any =
    let all = length-filter_both p (λ x. not (p x)) (λ x. refl) xs in let some = some_pass p xs any in omega arith

-- ---- one operation

-- what holds behind an operation, which takes its size and the sixteen bytes of a record
record Takes (list later : ShardList) (size : ℕ) : Type 0 where
  within : newest_bytes later ≤ whole.generation_bytes
  room : (size + 16) + potential later ≤ potential list

-- fewer identifiers are awaited
taken_away : (list : ShardList) (awaited : List Awaited) (size : ℕ) → newest_bytes list ≤ whole.generation_bytes → size ≤ 65548 →
    length awaited + 1 ≤ length list.awaited → Takes list (record list { awaited = awaited }) size
taken_away list awaited size within short fewer = record {
  within = within;
  room = by (whole.generation_bytes - newest_bytes list) (message_share * ((newest list).messages - length (newest_messages list))) (length awaited) (length list.awaited) fewer;
}
  where
    by : (bytes messages n m : ℕ) → n + 1 ≤ m → (size + 16) + (bytes + awaited_share * n + messages) ≤ bytes + awaited_share * m + messages
    by bytes messages n m less = omega arith

one_at_most : (m : StoredMessage) → length (becomes_awaited m) ≤ 1
one_at_most m = by ((m.qos == 2) && nat_lt 0 m.id)
  where
    by : (t : Bool) → length (cond t (triple_of m ∷ []) []) ≤ 1
    by true = omega arith
    by false = omega arith

added_takes : (list : ShardList) (m : StoredMessage) → IsList list → newest_bytes list ≤ whole.generation_bytes → may_add list m ≡ true →
    Takes list (act m.stamp list (PlainStore m)) (store_size m)
added_takes list m is within may =
    let has = (and_parts (has_place list m) (acts list (PlainStore m)) may).0 in
    let parts = and_parts (m.offset == next_of list) (nat_lt (m.offset + 1) (2 ^ 64) && fits limits list (PlainStore m ∷ [])) has in
    let more = and_parts (nat_lt (m.offset + 1) (2 ^ 64)) (fits limits list (PlainStore m ∷ [])) parts.1 in
    let fit = and_parts (takes_one_more list) (nat_le (newest_bytes list + store_size m) whole.generation_bytes) (sym (fits_means list m) ∙ more.1) in
    let count : length (newest_messages list) + 1 ≤ (newest list).messages = leb-true (length (newest_messages list) + 1) (newest list).messages fit.0 in
    let bytes : newest_bytes list + store_size m ≤ whole.generation_bytes = leb-true (newest_bytes list + store_size m) whole.generation_bytes fit.1 in
    let new : StoredMessage = placed m (next_of list) m.stamp in
    let ms : newest_messages (act m.stamp list (PlainStore m)) ≡ newest_messages list ++ new ∷ [] = newest_more list new (list.awaited ++ becomes_awaited m) is in
    let long : length (newest_messages (act m.stamp list (PlainStore m))) ≡ length (newest_messages list) + 1 = ap length ms ∙ length-append (newest_messages list) (new ∷ []) in
    let size : newest_bytes (act m.stamp list (PlainStore m)) ≡ newest_bytes list + store_size m = ap (sum_by store_size) ms ∙ bytes_more list new in
    let awaited : length (list.awaited ++ becomes_awaited m) ≤ length list.awaited + 1 = let one = one_at_most m in let all = length-append list.awaited (becomes_awaited m) in omega arith in
    record {
      within = omega arith;
      room = by (newest_bytes list) (store_size m) (length list.awaited) (length (newest_messages list)) (newest list).messages
          (newest_bytes (act m.stamp list (PlainStore m))) (length (list.awaited ++ becomes_awaited m)) (length (newest_messages (act m.stamp list (PlainStore m))))
          bytes count size awaited long;
    }
  where
    by : (bytes size awaited count most bytes_later awaited_later count_later : ℕ) → bytes + size ≤ whole.generation_bytes → count + 1 ≤ most →
        bytes_later ≡ bytes + size → awaited_later ≤ awaited + 1 → count_later ≡ count + 1 →
        (size + 16) + ((whole.generation_bytes - bytes_later) + awaited_share * awaited_later + message_share * (most - count_later))
        ≤ (whole.generation_bytes - bytes) + awaited_share * awaited + message_share * (most - count)
    by bytes size awaited count most bytes_later awaited_later count_later fit less bytes_is awaited_is count_is = omega arith

op_takes : (op : Op) (list : ShardList) → IsList list → newest_bytes list ≤ whole.generation_bytes → IsToldOp op → stands list (index_op op) ≡ true →
    Takes list (absorbed (index_op op) list) (op_size op)
op_takes (Store m) list is within told may =
    subst (λ t. Takes list (act_if t m.stored.stamp list (PlainStore m.stored)) (store_size m.stored)) (sym may) (added_takes list m.stored is within may)
op_takes (Release publisher incarnation id) list is within told may =
    taken_away list (filter (λ a. not (is_awaited_as publisher incarnation id a)) list.awaited) (13 + length publisher) within (omega (arith, told))
    (fewer_stay (is_awaited_as publisher incarnation id) list.awaited may)
op_takes (Forget publisher incarnation) list is within told may =
    taken_away list (filter (λ a. not (is_of publisher incarnation a)) list.awaited) (11 + length publisher) within (omega (arith, told))
    (fewer_stay (is_of publisher incarnation) list.awaited may)

-- ---- operations

ops_take : (ops : List Op) (list : ShardList) → IsList list → newest_bytes list ≤ whole.generation_bytes → All IsToldOp ops → all_stand list (index_ops ops) ≡ true →
    (sum_by op_size ops + 16 * length ops) + potential (absorbed_all (index_ops ops) list) ≤ potential list
ops_take [] list is within told stand = omega arith
ops_take (op ∷ ops) list is within told stand =
    let parts = and_parts (stands list (index_op op)) (all_stand (absorbed (index_op op) list) (index_ops ops)) stand in
    let one = op_takes op list is within (told 0 op (omega arith)) parts.0 in
    let order = (absorbed_all_grows (index_op op ∷ []) list is).order in
    let rest : (sum_by op_size ops + 16 * length ops) + potential (absorbed_all (index_ops ops) (absorbed (index_op op) list)) ≤ potential (absorbed (index_op op) list) =
    ops_take ops (absorbed (index_op op) list) order one.within (All-tail IsToldOp op ops told) parts.1 in
    let sizes : sum_by op_size (op ∷ ops) ≡ op_size op + sum_by op_size ops = sum_by-cons op_size op ops in
    by (op_size op) (sum_by op_size ops) (sum_by op_size (op ∷ ops)) (length ops) (potential (absorbed_all (index_ops ops) (absorbed (index_op op) list))) (potential (absorbed (index_op op) list)) (potential list)
    one.room rest sizes
  where
    by : (size sizes all n last next first : ℕ) → (size + 16) + next ≤ first → (sizes + 16 * n) + last ≤ next → all ≡ size + sizes → (all + 16 * suc n) + last ≤ first
    by size sizes all n last next first one rest is = omega arith

-- ---- a group

some_ops : (g : KeptGroup) → group_has_spelling g ≡ true → 1 ≤ length g.ops
some_ops g h =
    let p = and_parts (fits_u64 g.first) (fit_ops g.first g.ops) h in
    let q = and_parts (is_op_count (length g.ops)) (all_in_turn fits_op offsets_of g.first g.ops) p.1 in
    let some : 0 < length g.ops = ltb-true 0 (length g.ops) (and_parts (nat_lt 0 (length g.ops)) (nat_le (length g.ops) MOST_OPERATIONS) q.0).0 in omega arith

pub group_takes : (list : ShardList) (g : KeptGroup) → IsList list → newest_bytes list ≤ whole.generation_bytes → IsTrue (group_has_spelling g) →
    all_stand list (index_ops g.ops) ≡ true →
    5 + length (spelled_group g) + potential (absorbed_all (index_ops g.ops) list) ≤ potential list
group_takes list g is within has stand =
    let ops = ops_take g.ops list is within (group_told g has) stand in
    let some = some_ops g has in
    let size : length (spelled_group g) ≡ 11 + sum_by op_size g.ops = group_sized g in
    by (sum_by op_size g.ops) (length g.ops) (length (spelled_group g)) (potential (absorbed_all (index_ops g.ops) list)) (potential list) ops some size
  where
    by : (sizes n all last first : ℕ) → (sizes + 16 * n) + last ≤ first → 1 ≤ n → all ≡ 11 + sizes → 5 + all + last ≤ first
    by sizes n all last first room some is = omega arith

-- the same of bytes that spell a group which goes on where the list ends
pub bytes_take : (bytes : List ℕ) (g : KeptGroup) (list later : ShardList) → IsList list → newest_bytes list ≤ whole.generation_bytes → SpellsGroup bytes g →
    goes_on list g ≡ true → later ≡ absorbed_all (index_ops g.ops) list → 5 + length bytes + potential later ≤ potential list
bytes_take bytes g list later is within spelled goes is_later =
    let few : Bool = nat_le (length (absorbed_all (index_ops g.ops) list).awaited) whole.awaited in
    let p = and_parts (g.first == next_of list) (all_stand list (index_ops g.ops) && few) goes in
    let q = and_parts (all_stand list (index_ops g.ops)) few p.1 in
    subst (λ (l : ShardList). 5 + length bytes + potential l ≤ potential list) (sym is_later)
    (subst (λ (l : List ℕ). 5 + length l + potential (absorbed_all (index_ops g.ops) list) ≤ potential list) (sym spelled.is) (group_takes list g is within spelled.has q.0))
