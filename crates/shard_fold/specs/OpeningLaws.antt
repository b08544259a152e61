-- Laws of openings: which generation may begin, and how much its slot can take.
use Rattle.std.proofs.Common.{◌≡◌, ℕ, suc, ◌+◌, ◌-◌, ◌*◌, ◌≤◌, true, ◌&&◌, ◌==◌, List, [], ◌∷◌, ◌++◌, All, length, refl, sym, ap, subst, ◌∙◌, eq-eqb, eqb-true, leb-true, arith}
use Rattle.std.specs.Prelude.{nat_le}
use Rattle.std.specs.List.{sum_by}
use Rattle.std.specs.Cmp.Derive.{both_true}
use Rattle.std.proofs.lemmas.Bool.{and_parts}
use Rattle.std.proofs.lemmas.List.Elements.{All-tail}
use Rattle.std.proofs.lemmas.List.Sums.{sum_by-cons}
use Rattle.topic_model.specs.Profile.{whole}
use Rattle.topic_name.specs.declared.descriptor.Descriptor.{Descriptor}
use Rattle.shard_model.specs.ShardList.{Awaited, Cut, ShardList, newest, newest_messages, newest_of, next_of}
use Rattle.shard_model.specs.Capacity.{sealed_at}
use Rattle.shard_index.specs.declared.op.IndexOp.TheVariants.{Rotate}
use Rattle.shard_index.specs.KeptIndex.{KeptIndex, cut_of, list_of}
use Rattle.shard_index.specs.Absorbing.{absorbed, begun, begun_if, may_begin}
use Rattle.shard_index.specs.Sound.{newest_bytes}
use Rattle.shard_model.specs.Storing.{same_triple}
use Rattle.shard_index.specs.Triples.{are_distinct}
use Rattle.record_codec.specs.Records.{KeptOpening}
use Rattle.record_codec.specs.Sizes.{awaited_size}
use Rattle.record_codec.specs.SizeLaws.{opening_sized}
use Rattle.record_codec.specs.CountLaws.{opening_told}
use Rattle.record_codec.specs.Spells.{SpellsOpening}
use Rattle.record_codec.specs.Taking.{HasShortPublisher}
use Rattle.topic_name.specs.declared.config.TheConstants.{MOST_MESSAGES}
use Rattle.shard_fold.specs.declared.limits.TheConstants.{MOST_AWAITED, MOST_SLOT}
use Rattle.shard_fold.specs.Fold.{are_same, is_opening_of, opens, opens_behind, unsealed}
use Rattle.shard_fold.specs.Potential.{awaited_share, message_share, potential}

-- ---- which generation may begin

-- one whose number is the next may begin where its opening fits
pub may_begin_behind : (list : ShardList) (cut : Descriptor) (o : KeptOpening) → cut.number ≡ (newest list).number + 1 → opens_behind list cut o ≡ true →
    may_begin list (cut_of (unsealed cut)) ≡ true
may_begin_behind list cut o number opens =
    let p = and_parts (is_opening_of cut o) ((o.first == next_of list) && are_same o.awaited list.awaited) opens in
    let q = and_parts (o.first == next_of list) (are_same o.awaited list.awaited) p.1 in
    let r = and_parts (o.generation == cut.number) (o.first == cut.first) p.0 in
    let first : cut.first ≡ next_of list = sym (eqb-true o.first cut.first r.1) ∙ eqb-true o.first (next_of list) q.0 in
    both_true (eq-eqb cut.number ((newest list).number + 1) number) (both_true (eq-eqb cut.first (next_of list) first) refl)

pub pushed_newest : (cuts : List Cut) (cut : Cut) → newest_of (cuts ++ cut ∷ []) ≡ cut
pushed_newest [] cut = refl
pushed_newest (c ∷ []) cut = refl
pushed_newest (c ∷ d ∷ cuts) cut = pushed_newest (d ∷ cuts) cut

same_length : (awaited others : List Awaited) → are_same awaited others ≡ true → length awaited ≡ length others
same_length [] [] same = refl
same_length [] (b ∷ others) same = absurd cc
same_length (a ∷ awaited) [] same = absurd cc
same_length (a ∷ awaited) (b ∷ others) same = ap suc (same_length awaited others (and_parts (same_triple a b) (are_same awaited others) same).1)

-- ---- how much its slot can take

awaited_short : (xs : List Awaited) → All HasShortPublisher xs → sum_by awaited_size xs ≤ 65547 * length xs
awaited_short [] h = omega arith
awaited_short (a ∷ xs) h =
    let rest : sum_by awaited_size xs ≤ 65547 * length xs = awaited_short xs (All-tail HasShortPublisher a xs h) in
    let first : length a.publisher ≤ 65535 = h 0 a (omega arith) in
    let all : sum_by awaited_size (a ∷ xs) ≡ awaited_size a + sum_by awaited_size xs = sum_by-cons awaited_size a xs in
    omega arith

-- an opening and all that can follow, where the list has this many messages' room and awaits no more than may be
slot_short : (bytes : List ℕ) (o : KeptOpening) (list : ShardList) → SpellsOpening bytes o → length o.awaited ≤ 4096 → length list.awaited ≤ 4096 →
    (newest list).messages ≤ 32768 → 5 + length bytes + potential list ≤ MOST_SLOT
slot_short bytes o list spelled few few_left messages =
    let size : length bytes ≡ 19 + sum_by awaited_size o.awaited = ap length spelled.is ∙ opening_sized o in
    let short = awaited_short o.awaited (opening_told o spelled.has) in
    by (length bytes) (sum_by awaited_size o.awaited) (length o.awaited) (length list.awaited) (newest_bytes list) (newest list).messages (length (newest_messages list))
    size short few few_left messages
  where
    by : (n sizes count left bytes most taken : ℕ) → n ≡ 19 + sizes → sizes ≤ 65547 * count → count ≤ 4096 → left ≤ 4096 → most ≤ 32768 →
        5 + n + ((whole.generation_bytes - bytes) + awaited_share * left + message_share * (most - taken)) ≤ MOST_SLOT
    by n sizes count left bytes most taken size short few few_left messages = omega arith

pub oldest_short : (bytes : List ℕ) (o : KeptOpening) (cut opened : Descriptor) (index : KeptIndex) (awaited : List Awaited) → SpellsOpening bytes o →
    opens cut o ≡ true → index ≡ record { cuts = opened ∷ []; messages = []; awaited = awaited } → opened ≡ unsealed cut → awaited ≡ o.awaited →
    cut.messages ≤ MOST_MESSAGES → 5 + length bytes + potential (list_of index) ≤ MOST_SLOT
oldest_short bytes o cut opened index awaited spelled opens is is_unsealed is_awaited messages =
    let p = and_parts (is_opening_of cut o) (nat_le (length o.awaited) whole.awaited && are_distinct o.awaited) opens in
    let q = and_parts (nat_le (length o.awaited) whole.awaited) (are_distinct o.awaited) p.1 in
    let few : length o.awaited ≤ 4096 = leb-true (length o.awaited) whole.awaited q.0 in
    let kept : KeptIndex = record { cuts = unsealed cut ∷ []; messages = []; awaited = o.awaited } in
    let same : index ≡ kept = is ∙ (λ i. record { cuts = is_unsealed i ∷ []; messages = []; awaited = is_awaited i }) in
    subst (λ (k : KeptIndex). 5 + length bytes + potential (list_of k) ≤ MOST_SLOT) (sym same) (slot_short bytes o (list_of kept) spelled few few messages)

pub behind_short : (bytes : List ℕ) (o : KeptOpening) (moment : ℕ) (cut rotated : Descriptor) (list later : ShardList) → SpellsOpening bytes o →
    cut.number ≡ (newest list).number + 1 → opens_behind list cut o ≡ true → rotated ≡ unsealed cut → later ≡ absorbed (Rotate moment rotated) list →
    length list.awaited ≤ MOST_AWAITED → cut.messages ≤ MOST_MESSAGES → 5 + length bytes + potential later ≤ MOST_SLOT
behind_short bytes o moment cut rotated list later spelled number opens is_unsealed is_later few messages =
    let begins = may_begin_behind list cut o number opens in
    let new : ShardList = begun moment (cut_of (unsealed cut)) list in
    let is : later ≡ new = is_later ∙ ap (λ (c : Descriptor). absorbed (Rotate moment c) list) is_unsealed ∙ ap (λ b. begun_if b moment (cut_of (unsealed cut)) list) begins in
    let p = and_parts (is_opening_of cut o) ((o.first == next_of list) && are_same o.awaited list.awaited) opens in
    let q = and_parts (o.first == next_of list) (are_same o.awaited list.awaited) p.1 in
    let same = same_length o.awaited list.awaited q.1 in
    let few_told : length o.awaited ≤ 4096 = omega (arith, same, few) in
    subst (λ (l : ShardList). 5 + length bytes + potential l ≤ MOST_SLOT) (sym is)
    (slot_short bytes o new spelled few_told few
    (subst (λ (c : Cut). c.messages ≤ 32768) (sym (pushed_newest (sealed_at moment list.cuts) (cut_of (unsealed cut)))) messages))
