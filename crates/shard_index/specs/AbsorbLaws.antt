-- What an index keeps after operations shows the model's list after them.
use Rattle.std.proofs.Common.{◌≡◌, ℕ, zero, suc, ◌+◌, ◌-◌, ◌^◌, Bool, true, false, ◌&&◌, ◌==◌, nat_lt, ltb, List, [], ◌∷◌, ◌++◌, map, drop, slice_get, None, if◌then◌else◌, refl, sym, ap, ◌∙◌, eqb-true}
use Rattle.std.specs.Option.{option_map}
use Rattle.std.proofs.lemmas.Bool.{and_parts}
use Rattle.std.proofs.lemmas.List.{map-append, drop-map}
use Rattle.topic_name.specs.declared.descriptor.Descriptor.{Descriptor}
use Rattle.topic_name.specs.KeptMessage.{KeptMessage}
use Rattle.topic_model.specs.StoredMessage.{StoredMessage}
use Rattle.shard_model.specs.ShardList.{Cut, ShardList, floor_of, next_of, oldest_of, message_at, first_message}
use Rattle.shard_model.specs.Storing.{Store, act, acts, act_if, becomes_awaited, placed}
use Rattle.shard_model.specs.Capacity.{fits, sealed_at, without_oldest}
use Rattle.shard_index.specs.declared.op.IndexOp.{IndexOp}
use Rattle.shard_index.specs.declared.op.IndexOp.TheVariants.{Add, Release, Forget, Rotate, Drop}
use Rattle.shard_index.specs.KeptIndex.{KeptIndex, cut_of, stored_of, list_of, kept_at}
use Rattle.shard_index.specs.Absorbing.{absorbed, absorbed_all, added_if, begun, begun_if, has_place, kept_after, kept_after_all, limits, may_add, may_begin, rotated_if, sealed_last, with_generation, with_message, without_first}

-- a message that may be added has the next offset, so that it stays as it is
pub added_offset : (list : ShardList) (m : StoredMessage) → has_place list m ≡ true → m.offset ≡ next_of list
added_offset list m has =
    eqb-true m.offset (next_of list) (and_parts (m.offset == next_of list) (nat_lt (m.offset + 1) (2 ^ 64) && fits limits list (Store m ∷ [])) has).0

placed_itself : (m : StoredMessage) (offset : ℕ) → m.offset ≡ offset → placed m offset m.stamp ≡ m
placed_itself m offset is = ap (λ (o : ℕ). record m { offset = o }) (sym is)

pub sealed_cuts : (now : ℕ) (cuts : List Descriptor) → map cut_of (sealed_last now cuts) ≡ sealed_at now (map cut_of cuts)
sealed_cuts now [] = refl
sealed_cuts now (cut ∷ []) = refl
sealed_cuts now (cut ∷ other ∷ cuts) = ap (λ l. cut_of cut ∷ l) (sealed_cuts now (other ∷ cuts))

pub fewer_cuts : (cuts : List Descriptor) → map cut_of (without_first cuts) ≡ without_oldest (map cut_of cuts)
fewer_cuts [] = refl
fewer_cuts (cut ∷ []) = refl
fewer_cuts (cut ∷ other ∷ cuts) = refl

-- ---- an operation

pub list_added : (m : KeptMessage) (index : KeptIndex) → may_add (list_of index) m.stored ≡ true →
    list_of (with_message m index) ≡ act m.stored.stamp (list_of index) (Store m.stored)
list_added m index may =
    let offset = added_offset (list_of index) m.stored (and_parts (has_place (list_of index) m.stored) (acts (list_of index) (Store m.stored)) may).0 in
    ap (λ (l : List StoredMessage). record (list_of index) { messages = l; awaited = index.awaited ++ becomes_awaited m.stored })
    (map-append stored_of index.messages (m ∷ []) ∙ ap (λ (s : StoredMessage). map stored_of index.messages ++ s ∷ []) (sym (placed_itself m.stored (next_of (list_of index)) offset)))

pub list_begun : (now : ℕ) (cut : Descriptor) (index : KeptIndex) → list_of (with_generation now cut index) ≡ begun now (cut_of cut) (list_of index)
list_begun now cut index =
    ap (λ (l : List Cut). record (list_of index) { cuts = l })
    (map-append cut_of (sealed_last now index.cuts) (cut ∷ []) ∙ ap (λ (l : List Cut). l ++ cut_of cut ∷ []) (sealed_cuts now index.cuts))

pub list_after : (op : IndexOp) (index : KeptIndex) → list_of (kept_after op index) ≡ absorbed op (list_of index)
list_after (Release a) index = refl
list_after (Forget p) index = refl
list_after (Add m) index = by (may_add (list_of index) m.stored) refl
  where
    by : (b : Bool) → may_add (list_of index) m.stored ≡ b → list_of (added_if b m index) ≡ act_if b m.stored.stamp (list_of index) (Store m.stored)
    by false is = refl
    by true is = list_added m index is
list_after (Rotate now cut) index = by (may_begin (list_of index) (cut_of cut))
  where
    by : (b : Bool) → list_of (rotated_if b now cut index) ≡ begun_if b now (cut_of cut) (list_of index)
    by false = refl
    by true = list_begun now cut index
list_after Drop index =
    ap (λ (l : List StoredMessage). record { cuts = map cut_of (without_first index.cuts); messages = l; awaited = index.awaited })
    (sym (drop-map stored_of ((oldest_of (map cut_of (without_first index.cuts))).first - floor_of (list_of index)) index.messages))
    ∙ ap (λ (l : List Cut). record { cuts = l; messages = drop ((oldest_of l).first - floor_of (list_of index)) (map stored_of index.messages); awaited = index.awaited })
    (fewer_cuts index.cuts)

-- ---- all operations of a list

pub list_after_all : (ops : List IndexOp) (index : KeptIndex) → list_of (kept_after_all ops index) ≡ absorbed_all ops (list_of index)
list_after_all [] index = refl
list_after_all (op ∷ ops) index = list_after_all ops (kept_after op index) ∙ ap (absorbed_all ops) (list_after op index)

-- ---- a look-up

first_is : (ms : List KeptMessage) (k : ℕ) → option_map stored_of (slice_get ms k) ≡ first_message (drop k (map stored_of ms))
first_is [] zero = refl
first_is [] (suc k) = refl
first_is (m ∷ ms) zero = refl
first_is (m ∷ ms) (suc k) = first_is ms k

pub stored_at : (index : KeptIndex) (offset : ℕ) → option_map stored_of (kept_at index offset) ≡ message_at (list_of index) offset
stored_at index offset = by (ltb offset (floor_of (list_of index)))
  where
    by : (b : Bool) → option_map stored_of (if b then None else slice_get index.messages (offset - floor_of (list_of index)))
        ≡ (if b then None else first_message (drop (offset - floor_of (list_of index)) (map stored_of index.messages)))
    by true = refl
    by false = first_is index.messages (offset - floor_of (list_of index))
