-- An index that absorbs what a group asks for has the list after the group is stored.
use Rattle.std.proofs.Common.{◌≡◌, ℕ, ◌+◌, ◌<◌, ◌≤◌, ◌^◌, Bool, true, false, ◌&&◌, ◌==◌, not, List, [], ◌∷◌, ◌++◌, length, refl, ap, subst, ◌∙◌, eq-eqb, lt-ltb, le-leb, arith}
use Rattle.std.specs.List.{list_any, sum_by}
use Rattle.std.specs.Cmp.Derive.{both_true}
use Rattle.std.proofs.lemmas.List.{length-append}
use Rattle.std.proofs.lemmas.List.Sums.{sum_by-append}
use Rattle.topic_model.specs.Profile.{whole}
use Rattle.topic_model.specs.StoredMessage.{StoredMessage}
use Rattle.shard_model.specs.ShardList.{Awaited, ShardList, newest, newest_messages, next_of}
use Rattle.shard_model.specs.Storing.{Op, Store, Release, Forget, act, act_if, acts, becomes_awaited, is_awaited_as, is_of, keep_if, kept_ops, placed, store, stores_of}
use Rattle.shard_model.specs.Capacity.{store_size}
use Rattle.shard_model.specs.Lists.{IsList}
use Rattle.shard_model.specs.laws.ListLaws.{store_in_order}
use Rattle.shard_index.specs.Sound.{newest_bytes}
use Rattle.shard_index.specs.SoundLaws.{bytes_more, fits_means, newest_more}
use Rattle.shard_index.specs.Absorbing.{absorbed_all, may_add}
use Rattle.shard_index.specs.Group.{HasRoom, also_if, op_for, ops_for}

-- ---- the messages that are kept

abbrev store_if : Bool → Op → List StoredMessage → List StoredMessage
store_if false op ms = ms
store_if true (Store m) ms = m ∷ ms
store_if true (Release publisher incarnation id) ms = ms
store_if true (Forget publisher incarnation) ms = ms

abbrev stores_kept : ℕ → ShardList → List Op → List StoredMessage
stores_kept now list [] = []
stores_kept now list (op ∷ ops) = store_if (acts list op) op (stores_kept now (act_if (acts list op) now list op) ops)

kept_store : (b : Bool) (op : Op) (ops : List Op) → stores_of (keep_if b op ops) ≡ store_if b op (stores_of ops)
kept_store false op ops = refl
kept_store true (Store m) ops = refl
kept_store true (Release publisher incarnation id) ops = refl
kept_store true (Forget publisher incarnation) ops = refl

-- which are kept depends on what is awaited alone
acts_alike : (a b : ShardList) (op : Op) → a.awaited ≡ b.awaited → acts a op ≡ acts b op
acts_alike a b (Store m) e = ap (λ l. not ((m.qos == 2) && list_any (is_awaited_as m.publisher m.incarnation m.id) l)) e
acts_alike a b (Release publisher incarnation id) e = ap (list_any (is_awaited_as publisher incarnation id)) e
acts_alike a b (Forget publisher incarnation) e = ap (list_any (is_of publisher incarnation)) e

awaited_alike : (t : Bool) (now then : ℕ) (a b : ShardList) (op : Op) → a.awaited ≡ b.awaited → (act_if t now a op).awaited ≡ (act_if t then b op).awaited
awaited_alike false now then a b op e = e
awaited_alike true now then a b (Store m) e = ap (λ l. l ++ becomes_awaited m) e
awaited_alike true now then a b (Release publisher incarnation id) e = ap (λ (l : List Awaited). (act now (record a { awaited = l }) (Release publisher incarnation id)).awaited) e
awaited_alike true now then a b (Forget publisher incarnation) e = ap (λ (l : List Awaited). (act now (record a { awaited = l }) (Forget publisher incarnation)).awaited) e

stores_alike : (ops : List Op) (now : ℕ) (a b : ShardList) → a.awaited ≡ b.awaited → stores_of (kept_ops a ops) ≡ stores_kept now b ops
stores_alike [] now a b e = refl
stores_alike (op ∷ ops) now a b e =
    kept_store (acts a op) op (kept_ops (act_if (acts a op) 0 a op) ops)
    ∙ ap (store_if (acts a op) op) (stores_alike ops now (act_if (acts a op) 0 a op) (act_if (acts a op) now b op) (awaited_alike (acts a op) 0 now a b op e))
    ∙ ap (λ t. store_if t op (stores_kept now (act_if t now b op) ops)) (acts_alike a b op e)

-- ---- room for one, and for the others behind it

sizes_more : (m : StoredMessage) (ms : List StoredMessage) → sum_by store_size (m ∷ ms) ≡ store_size m + sum_by store_size ms
sizes_more m ms = sum_by-append store_size (m ∷ []) ms ∙ ap (λ n. n + sum_by store_size ms) (omega arith)

room_adds : (list : ShardList) (m : StoredMessage) (ms : List StoredMessage) (now : ℕ) → HasRoom list (m ∷ ms) → acts list (Store m) ≡ true →
    may_add list (placed m (next_of list) now) ≡ true
room_adds list m ms now room new =
    let offset = eq-eqb (next_of list) (next_of list) refl in
    let more : next_of list + 1 < 2 ^ 64 = let end = room.end in omega arith in
    let count : length (newest_messages list) + 1 ≤ (newest list).messages = let count = room.count in omega arith in
    let bytes : newest_bytes list + store_size m ≤ whole.generation_bytes = let bytes = room.bytes in let sizes = sizes_more m ms in omega arith in
    let fit = fits_means list (placed m (next_of list) now)
    ∙ both_true (le-leb (length (newest_messages list) + 1) (newest list).messages count) (le-leb (newest_bytes list + store_size m) whole.generation_bytes bytes) in
    both_true (both_true offset (both_true (lt-ltb (next_of list + 1) (2 ^ 64) more) fit)) new

room_stays : (list : ShardList) (m : StoredMessage) (ms : List StoredMessage) (now : ℕ) → IsList list → HasRoom list (m ∷ ms) → HasRoom (act now list (Store m)) ms
room_stays list m ms now is room =
    let new = placed m (next_of list) now in
    let newest_ms : newest_messages (act now list (Store m)) ≡ newest_messages list ++ new ∷ [] = newest_more list new (list.awaited ++ becomes_awaited m) is in
    let long : length (newest_messages (act now list (Store m))) ≡ length (newest_messages list) + 1 = ap length newest_ms ∙ length-append (newest_messages list) (new ∷ []) in
    let size : newest_bytes (act now list (Store m)) ≡ newest_bytes list + store_size m = ap (sum_by store_size) newest_ms ∙ bytes_more list new in
    let longer : length (list.messages ++ new ∷ []) ≡ length list.messages + 1 = length-append list.messages (new ∷ []) in
    let count = room.count in
    let bytes = room.bytes in
    let sizes = sizes_more m ms in
    let end = room.end in
    record { count = omega arith; bytes = omega arith; end = omega arith }

-- ---- the group

absorbs : (ops : List Op) (list : ShardList) (now : ℕ) → IsList list → (0 < length (stores_kept now list ops) → HasRoom list (stores_kept now list ops)) →
    absorbed_all (ops_for list now ops) list ≡ store list ops now
absorbs [] list now is room = refl
absorbs (op ∷ ops) list now is room = by op (acts list op) refl room (λ later order more. absorbs ops later now order more)
  where
    by : (op : Op) (b : Bool) → acts list op ≡ b →
        (0 < length (store_if b op (stores_kept now (act_if b now list op) ops)) → HasRoom list (store_if b op (stores_kept now (act_if b now list op) ops))) →
        ((later : ShardList) → IsList later → (0 < length (stores_kept now later ops) → HasRoom later (stores_kept now later ops)) →
        absorbed_all (ops_for later now ops) later ≡ store later ops now) →
        absorbed_all (also_if b (op_for list now op) (ops_for (act_if b now list op) now ops)) list ≡ store (act_if b now list op) ops now
    by op false new room rest = rest list is room
    by (Release publisher incarnation id) true new room rest =
        rest (act now list (Release publisher incarnation id)) (record { cuts = is.cuts; offsets = is.offsets })
        (λ some. let r = room some in record { count = r.count; bytes = r.bytes; end = r.end })
    by (Forget publisher incarnation) true new room rest =
        rest (act now list (Forget publisher incarnation)) (record { cuts = is.cuts; offsets = is.offsets })
        (λ some. let r = room some in record { count = r.count; bytes = r.bytes; end = r.end })
    by (Store m) true new room rest =
        let ms = stores_kept now (act now list (Store m)) ops in
        let has = room (omega arith) in
        let may = room_adds list m ms now has new in
        ap (λ t. absorbed_all (ops_for (act now list (Store m)) now ops) (act_if t now list (Store (placed m (next_of list) now)))) may
        ∙ rest (act now list (Store m)) (order (acts list (Store m)) new (store_in_order list (Store m ∷ []) now is)) (λ some. room_stays list m ms now is has)
      where
        order : (b : Bool) → b ≡ true → IsList (act_if b now list (Store m)) → IsList (act now list (Store m))
        order true e is = is
        order false e is = cc

pub group_absorbed : (list : ShardList) (ops : List Op) (now : ℕ) → IsList list →
    (0 < length (stores_of (kept_ops list ops)) → HasRoom list (stores_of (kept_ops list ops))) →
    absorbed_all (ops_for list now ops) list ≡ store list ops now
group_absorbed list ops now is room =
    absorbs ops list now is
    (subst (λ ms. 0 < length ms → HasRoom list ms) (stores_alike ops now list list refl) room)
