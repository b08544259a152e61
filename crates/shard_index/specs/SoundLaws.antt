-- What holds of every index holds after each operation.
use Rattle.std.proofs.Common.{◌≡◌, ℕ, ◌+◌, ◌-◌, ◌<◌, ◌≤◌, ◌^◌, Bool, true, ◌&&◌, ◌==◌, nat_le, nat_lt, is_none, List, [], ◌∷◌, ◌++◌, length, drop, Option, Some, None, refl, sym, ap, subst, ◌∙◌, eqb-true, ltb-true, leb-true, arith}
use Rattle.std.specs.List.{sum_by}
use Rattle.std.proofs.Math.Bool.{and-true, and_assoc}
use Rattle.std.proofs.Math.Seq.{drop-length}
use Rattle.std.proofs.lemmas.Bool.{and_parts}
use Rattle.std.proofs.lemmas.Bool.Decides.{nat_tests}
use Rattle.std.proofs.lemmas.List.{length-append, length-drop, drop-append-le, drop-drop}
use Rattle.std.proofs.lemmas.List.Sums.{sum_by-append}
use Rattle.topic_model.specs.StoredMessage.{StoredMessage}
use Rattle.topic_model.specs.Profile.{Config, whole}
use Rattle.shard_model.specs.ShardList.{Cut, Awaited, new_cut, ShardList, newest, newest_of, newest_messages, floor_of, next_of, oldest_of}
use Rattle.shard_model.specs.Storing.{Store, act, act_if, acts, becomes_awaited, placed}
use Rattle.shard_model.specs.Capacity.{dropped, fits, learns_few_or_within, rotated, sealed_at, store_size}
use Rattle.shard_model.specs.laws.CapacityLaws.{few_or_within}
use Rattle.shard_model.specs.Lists.{IsRow, IsList}
use Rattle.shard_model.specs.laws.ListLaws.{store_in_order, row_first}
use Rattle.shard_model.specs.laws.OrderLaws.{firsts_in_order, newest_in_order}
use Rattle.shard_model.specs.laws.GenerationLaws.{rotated_in_order, dropped_in_order}
use Rattle.shard_index.specs.Sound.{IsSound, newest_bytes}
use Rattle.shard_index.specs.Absorbing.{begun, has_place, limits, may_add, may_begin}

-- ---- the newest generation begins within the list

pub newest_first : (list : ShardList) → IsList list → (floor_of list ≤ (newest list).first) × ((newest list).first ≤ next_of list)
newest_first list is = firsts_in_order list (newest list) is (newest_in_order list is).0

pub newest_long : (list : ShardList) → IsList list → length (newest_messages list) ≡ next_of list - (newest list).first
newest_long list is =
    let firsts = newest_first list is in
    let from = firsts.0 in
    let to = firsts.1 in
    let long = length-drop ((newest list).first - floor_of list) list.messages in
    omega arith

-- one more message is one of the newest generation
pub newest_more : (list : ShardList) (m : StoredMessage) (awaited : List Awaited) → IsList list →
    newest_messages (record list { messages = list.messages ++ m ∷ []; awaited = awaited }) ≡ newest_messages list ++ m ∷ []
newest_more list m awaited is =
    let firsts = newest_first list is in
    let from = firsts.0 in
    let to = firsts.1 in
    let within : (newest list).first - floor_of list ≤ length list.messages = omega arith in
    drop-append-le ((newest list).first - floor_of list) list.messages (m ∷ []) within

-- ---- room

pub learns_anyway : (cut : Cut) (ms : List StoredMessage) → learns_few_or_within limits cut ms ≡ true
learns_anyway cut ms = few_or_within limits cut ms

pub bytes_more : (list : ShardList) (m : StoredMessage) → sum_by store_size (newest_messages list ++ m ∷ []) ≡ newest_bytes list + store_size m
bytes_more list m = sum_by-append store_size (newest_messages list) (m ∷ []) ∙ ap (λ n. newest_bytes list + n) (omega arith)

-- by the count and the bytes alone
pub fits_means : (list : ShardList) (m : StoredMessage) → fits limits list (Store m ∷ [])
    ≡ (nat_le (length (newest_messages list) + 1) (newest list).messages && nat_le (newest_bytes list + store_size m) whole.generation_bytes)
fits_means list m =
    let ms = newest_messages list ++ m ∷ [] in
    ap (λ n. nat_le n (newest list).messages && (nat_le (sum_by store_size ms) whole.generation_bytes && learns_few_or_within limits (newest list) ms))
    (length-append (newest_messages list) (m ∷ []))
    ∙ ap (λ n. nat_le (length (newest_messages list) + 1) (newest list).messages && (nat_le n whole.generation_bytes && learns_few_or_within limits (newest list) ms))
    (bytes_more list m)
    ∙ ap (λ b. nat_le (length (newest_messages list) + 1) (newest list).messages && (nat_le (newest_bytes list + store_size m) whole.generation_bytes && b))
    (learns_anyway (newest list) ms)
    ∙ ap (λ b. nat_le (length (newest_messages list) + 1) (newest list).messages && b) (and-true (nat_le (newest_bytes list + store_size m) whole.generation_bytes))

-- whether the offset may be given, and whether one more message is taken
abbrev pub may_be_next : ℕ → ℕ → Bool
may_be_next offset next = (offset == next) && nat_lt (offset + 1) (2 ^ 64)

abbrev pub takes_one_more : ShardList → Bool
takes_one_more list = nat_le (length (newest_messages list) + 1) (newest list).messages

fits_left : (bytes left size : ℕ) → left + bytes ≡ whole.generation_bytes → nat_le (bytes + size) whole.generation_bytes ≡ nat_le size left
fits_left bytes left size is = grind (arith, nat_tests)

module _ (list : ShardList) (m : StoredMessage) (left : ℕ) (is : IsSound list left) where
  pub place_means : has_place list m ≡ (may_be_next m.offset (next_of list) && (takes_one_more list && nat_le (store_size m) left))
  place_means =
      sym (and_assoc (m.offset == next_of list) (nat_lt (m.offset + 1) (2 ^ 64)) (fits limits list (Store m ∷ [])))
      ∙ ap (λ b. may_be_next m.offset (next_of list) && b) (fits_means list m)
      ∙ ap (λ b. may_be_next m.offset (next_of list) && (takes_one_more list && b)) (fits_left (newest_bytes list) left (store_size m) is.room)

  -- what is left behind it
  pub left_means : whole.generation_bytes - (newest_bytes list + store_size m) ≡ left - store_size m
  left_means = let room = is.room in omega arith

-- ---- a message is added

added_is : (list : ShardList) (m : StoredMessage) → may_add list m ≡ true → (has_place list m ≡ true) × (acts list (Store m) ≡ true)
added_is list m may = and_parts (has_place list m) (acts list (Store m)) may

pub sound_added : (list : ShardList) (m : StoredMessage) (left : ℕ) → IsSound list left → may_add list m ≡ true →
    IsSound (act m.stamp list (Store m)) (whole.generation_bytes - (newest_bytes list + store_size m))
sound_added list m left is may =
    let has = added_is list m may in
    let parts = and_parts (m.offset == next_of list) (nat_lt (m.offset + 1) (2 ^ 64) && fits limits list (Store m ∷ [])) has.0 in
    let offset = eqb-true m.offset (next_of list) parts.0 in
    let more = and_parts (nat_lt (m.offset + 1) (2 ^ 64)) (fits limits list (Store m ∷ [])) parts.1 in
    let below : m.offset + 1 < 2 ^ 64 = ltb-true (m.offset + 1) (2 ^ 64) more.0 in
    let fit = and_parts (takes_one_more list) (nat_le (newest_bytes list + store_size m) whole.generation_bytes) (sym (fits_means list m) ∙ more.1) in
    let within : newest_bytes list + store_size m ≤ whole.generation_bytes = leb-true (newest_bytes list + store_size m) whole.generation_bytes fit.1 in
    let long : length (list.messages ++ placed m (next_of list) m.stamp ∷ []) ≡ length list.messages + 1 = length-append list.messages (placed m (next_of list) m.stamp ∷ []) in
    let bytes : newest_bytes (act m.stamp list (Store m)) ≡ newest_bytes list + store_size m =
    ap (sum_by store_size) (newest_more list (placed m (next_of list) m.stamp) (list.awaited ++ becomes_awaited m) is.order) ∙ bytes_more list (placed m (next_of list) m.stamp) in
    record {
      order = subst (λ b. IsList (act_if b m.stamp list (Store m))) has.1 (store_in_order list (Store m ∷ []) m.stamp is.order);
      end = omega arith;
      room = omega arith;
    }

-- ---- what is awaited

pub sound_awaited : (list : ShardList) (awaited : List Awaited) (left : ℕ) → IsSound list left → IsSound (record list { awaited = awaited }) left
sound_awaited list awaited left is = record { order = record { cuts = is.order.cuts; offsets = is.order.offsets }; end = is.end; room = is.room }

-- ---- a new generation

newest_pushed : (cuts : List Cut) (cut : Cut) → newest_of (cuts ++ cut ∷ []) ≡ cut
newest_pushed [] cut = refl
newest_pushed (c ∷ []) cut = refl
newest_pushed (c ∷ d ∷ cuts) cut = newest_pushed (d ∷ cuts) cut

same_floor : (now end : ℕ) (cuts : List Cut) (cut : Cut) → IsRow end cuts → (oldest_of (sealed_at now cuts ++ cut ∷ [])).first ≡ (oldest_of cuts).first
same_floor now end [] cut row = absurd row
same_floor now end (c ∷ []) cut row = refl
same_floor now end (c ∷ d ∷ cuts) cut row = refl

pub is_unsealed : (sealed : Option ℕ) → is_none sealed ≡ true → sealed ≡ None
is_unsealed None is = refl
is_unsealed (Some now) is = cc

-- with these values a new generation is this one
pub config_of : Cut → Config
config_of cut = record { shards = 1; workers = 1; top = cut.top; below = cut.below; messages = cut.messages; retention = 0 }

pub begun_is : (now : ℕ) (list : ShardList) (cut : Cut) → cut.number ≡ (newest list).number + 1 → cut.first ≡ next_of list → cut.sealed ≡ None →
    rotated (config_of cut) now list ≡ begun now cut list
unfolding config_of
begun_is now list cut number first sealed =
    let new : new_cut (config_of cut) ((newest list).number + 1) (next_of list) ≡ cut =
    sym (λ i. record { number = number i; first = first i; top = cut.top; below = cut.below; messages = cut.messages; sealed = sealed i }) in
    ap (λ (c : Cut). begun now c list) new

pub sound_begun : (now : ℕ) (list : ShardList) (cut : Cut) (left : ℕ) → IsSound list left → may_begin list cut ≡ true → IsSound (begun now cut list) whole.generation_bytes
sound_begun now list cut left is may =
    let parts = and_parts (cut.number == (newest list).number + 1) ((cut.first == next_of list) && is_none cut.sealed) may in
    let more = and_parts (cut.first == next_of list) (is_none cut.sealed) parts.1 in
    let number = eqb-true cut.number ((newest list).number + 1) parts.0 in
    let first = eqb-true cut.first (next_of list) more.0 in
    let sealed = is_unsealed cut.sealed more.1 in
    let cuts = sealed_at now list.cuts ++ cut ∷ [] in
    let floor = same_floor now (next_of list) list.cuts cut is.order.cuts in
    let newest : (newest_of cuts).first ≡ cut.first = ap (λ (c : Cut). c.first) (newest_pushed (sealed_at now list.cuts) cut) in
    let end = is.end in
    let place : (newest_of cuts).first - (oldest_of cuts).first ≡ length list.messages = omega arith in
    let none : newest_messages (begun now cut list) ≡ [] = ap (λ n. drop n list.messages) place ∙ drop-length list.messages in
    let bytes : newest_bytes (begun now cut list) ≡ 0 = ap (sum_by store_size) none in
    record {
      order = subst IsList (begun_is now list cut number first sealed) (rotated_in_order (config_of cut) now list is.order);
      end = omega arith;
      room = omega arith;
    }

-- ---- the oldest generation goes

module _ (ms : List StoredMessage) (awaited : List Awaited) (left : ℕ) where
  abbrev list_with : List Cut → ShardList
  list_with cuts = record { cuts = cuts; messages = ms; awaited = awaited }

  sound_dropped_of : (cuts : List Cut) → IsSound (list_with cuts) left → IsSound (dropped (list_with cuts)) left
  sound_dropped_of [] is = absurd is.order.cuts
  sound_dropped_of (c ∷ []) is =
      let none : c.first - c.first ≡ 0 = omega arith in
      subst (λ n. IsSound (record { cuts = c ∷ []; messages = drop n ms; awaited = awaited }) left) (sym none) is
  sound_dropped_of (c ∷ d ∷ cuts) is =
      let order = dropped_in_order (list_with (c ∷ d ∷ cuts)) is.order in
      let n = d.first - c.first in
      let newest = (newest_of (d ∷ cuts)).first in
      let firsts = newest_first (dropped (list_with (c ∷ d ∷ cuts))) order in
      let from : d.first ≤ newest = firsts.0 in
      let before : c.first ≤ d.first = is.order.cuts.0.first in
      let within : d.first ≤ c.first + length ms = row_first (c.first + length ms) (d ∷ cuts) is.order.cuts.1 in
      let place : n + (newest - d.first) ≡ newest - c.first = omega arith in
      let same : drop (newest - d.first) (drop n ms) ≡ drop (newest - c.first) ms = drop-drop (newest - d.first) n ms ∙ ap (λ k. drop k ms) place in
      let long = length-drop n ms in
      let end : c.first + length ms < 2 ^ 64 = is.end in
      record {
        order = order;
        end = omega arith;
        room = ap (λ l. left + sum_by store_size l) same ∙ is.room;
      }

pub sound_dropped : (list : ShardList) (left : ℕ) → IsSound list left → IsSound (dropped list) left
sound_dropped list left is = sound_dropped_of list.messages list.awaited left list.cuts is
