-- For a group for which there is room, each operation of the index can stand.
use Rattle.std.proofs.Common.{◌≡◌, ℕ, ◌+◌, ◌<◌, ◌≤◌, ◌^◌, Bool, true, false, List, [], ◌∷◌, ◌++◌, length, refl, sym, ap, subst, ◌∙◌, eq-eqb, lt-ltb, le-leb, arith}
use Rattle.std.specs.List.{sum_by}
use Rattle.std.specs.Cmp.Derive.{both_true}
use Rattle.std.proofs.lemmas.List.{length-append}
use Rattle.std.proofs.lemmas.List.Sums.{sum_by-cons}
use Rattle.topic_model.specs.Profile.{whole}
use Rattle.topic_model.specs.StoredMessage.{StoredMessage}
use Rattle.shard_model.specs.ShardList.{ShardList, newest, newest_messages, next_of}
use Rattle.shard_model.specs.Storing.{Op, Store, Release, Forget, act, act_if, acts, becomes_awaited, keep_if, kept_ops, placed, store, stores_of}
use Rattle.shard_model.specs.Capacity.{store_size}
use Rattle.shard_model.specs.Lists.{IsList}
use Rattle.shard_model.specs.laws.ListLaws.{store_in_order}
use Rattle.shard_index.specs.Sound.{newest_bytes}
use Rattle.shard_index.specs.SoundLaws.{bytes_more, fits_means, newest_more}
use Rattle.shard_index.specs.Absorbing.{all_stand, may_add}
use Rattle.shard_index.specs.Group.{HasRoom, also_if, op_for, ops_for}
use Rattle.group_plan.specs.Keeping.{acts_on, awaited_if}
use Rattle.group_plan.specs.KeepLaws.{acts_is, awaited_is}

-- ---- which operations are kept doesn't depend on the moment

pub acts_alike : (a b : ShardList) (op : Op) → a.awaited ≡ b.awaited → acts a op ≡ acts b op
acts_alike a b op e = acts_is a op ∙ ap (λ l. acts_on l op) e ∙ sym (acts_is b op)

pub awaited_alike : (t : Bool) (now then : ℕ) (a b : ShardList) (op : Op) → a.awaited ≡ b.awaited → (act_if t now a op).awaited ≡ (act_if t then b op).awaited
awaited_alike t now then a b op e = awaited_is t now a op ∙ ap (awaited_if t op) e ∙ sym (awaited_is t then b op)

pub kept_are_stored : (ops : List Op) (a list : ShardList) (now : ℕ) → a.awaited ≡ list.awaited → store list (kept_ops a ops) now ≡ store list ops now
kept_are_stored [] a list now e = refl
kept_are_stored (op ∷ ops) a list now e =
    by (acts a op) (acts list op) refl (acts_alike a list op e) (λ t. kept_are_stored ops (act_if t 0 a op) (act_if t now list op) now (awaited_alike t 0 now a list op e))
  where
    by : (s t : Bool) → acts list op ≡ t → s ≡ t →
        ((t : Bool) → store (act_if t now list op) (kept_ops (act_if t 0 a op) ops) now ≡ store (act_if t now list op) ops now) →
        store list (keep_if s op (kept_ops (act_if s 0 a op) ops)) now ≡ store (act_if t now list op) ops now
    by true true is same rest = ap (λ t. store (act_if t now list op) (kept_ops (act_if true 0 a op) ops) now) is ∙ rest true
    by false false is same rest = rest false
    by true false is same rest = absurd cc
    by false true is same rest = absurd cc

-- ---- room for one, and for the others behind it

module _ (list : ShardList) (m : StoredMessage) (ms : List StoredMessage) (now : ℕ) (room : HasRoom list (m ∷ ms)) where
  room_adds : acts list (Store m) ≡ true → may_add list (placed m (next_of list) now) ≡ true
  room_adds new =
      let offset = eq-eqb (next_of list) (next_of list) refl in
      let more : next_of list + 1 < 2 ^ 64 = let end = room.end in omega arith in
      let count : length (newest_messages list) + 1 ≤ (newest list).messages = let count = room.count in omega arith in
      let sizes = sum_by-cons store_size m ms in
      let bytes : newest_bytes list + store_size m ≤ whole.generation_bytes = let bytes = room.bytes in omega arith in
      let fit = fits_means list (placed m (next_of list) now)
      ∙ both_true (le-leb (length (newest_messages list) + 1) (newest list).messages count) (le-leb (newest_bytes list + store_size m) whole.generation_bytes bytes) in
      both_true (both_true offset (both_true (lt-ltb (next_of list + 1) (2 ^ 64) more) fit)) new

  room_stays : IsList list → HasRoom (act now list (Store m)) ms
  room_stays is =
      let new = placed m (next_of list) now in
      let behind : newest_messages (act now list (Store m)) ≡ newest_messages list ++ new ∷ [] = newest_more list new (list.awaited ++ becomes_awaited m) is in
      let long : length (newest_messages (act now list (Store m))) ≡ length (newest_messages list) + 1 = ap length behind ∙ length-append (newest_messages list) (new ∷ []) in
      let size : newest_bytes (act now list (Store m)) ≡ newest_bytes list + store_size m = ap (sum_by store_size) behind ∙ bytes_more list new in
      let longer : length (list.messages ++ new ∷ []) ≡ length list.messages + 1 = length-append list.messages (new ∷ []) in
      let sizes = sum_by-cons store_size m ms in
      let count = room.count in
      let bytes = room.bytes in
      let end = room.end in
      record { count = omega arith; bytes = omega arith; end = omega arith }

  order_stays : acts list (Store m) ≡ true → IsList list → IsList (act now list (Store m))
  order_stays new is = subst (λ t. IsList (act_if t now list (Store m))) new (store_in_order list (Store m ∷ []) now is)

-- ---- the group

pub all_can_stand : (ops : List Op) (a list : ShardList) (now : ℕ) → a.awaited ≡ list.awaited → IsList list →
    (0 < length (stores_of (kept_ops a ops)) → HasRoom list (stores_of (kept_ops a ops))) → all_stand list (ops_for list now ops) ≡ true
all_can_stand [] a list now e is room = refl
all_can_stand (op ∷ ops) a list now e is room =
    by op (acts a op) (acts list op) refl (acts_alike a list op e) room
    (λ t. all_can_stand ops (act_if t 0 a op) (act_if t now list op) now (awaited_alike t 0 now a list op e))
  where
    by : (op : Op) (s t : Bool) → acts list op ≡ t → s ≡ t →
        (0 < length (stores_of (keep_if s op (kept_ops (act_if s 0 a op) ops))) → HasRoom list (stores_of (keep_if s op (kept_ops (act_if s 0 a op) ops)))) →
        ((t : Bool) → IsList (act_if t now list op) →
        (0 < length (stores_of (kept_ops (act_if t 0 a op) ops)) → HasRoom (act_if t now list op) (stores_of (kept_ops (act_if t 0 a op) ops))) →
        all_stand (act_if t now list op) (ops_for (act_if t now list op) now ops) ≡ true) →
        all_stand list (also_if t (op_for list now op) (ops_for (act_if t now list op) now ops)) ≡ true
    by op false false acts same room rest = rest false is room
    by op true false acts same room rest = absurd cc
    by op false true acts same room rest = absurd cc
    by (Release publisher incarnation id) true true acts same room rest =
        both_true acts
        (rest true (record { cuts = is.cuts; offsets = is.offsets })
        (λ some. let r = room some in record { count = r.count; bytes = r.bytes; end = r.end }))
    by (Forget publisher incarnation) true true acts same room rest =
        both_true acts
        (rest true (record { cuts = is.cuts; offsets = is.offsets })
        (λ some. let r = room some in record { count = r.count; bytes = r.bytes; end = r.end }))
    by (Store m) true true acts same room rest =
        let ms = stores_of (kept_ops (act 0 a (Store m)) ops) in
        let has = room (omega arith) in
        let may = room_adds list m ms now has acts in
        let later = act now list (Store m) in
        both_true may
        (ap (λ t. all_stand (act_if t now list (Store (placed m (next_of list) now))) (ops_for later now ops)) may
        ∙ rest true (order_stays list m ms now has acts is) (λ some. room_stays list m ms now has is))
