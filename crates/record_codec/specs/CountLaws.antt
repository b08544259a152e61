-- What has a spelling can be told: lengths, counts, and a body in memory.
use Rattle.std.proofs.Common.{◌≡◌, ℕ, ◌+◌, ◌-◌, ◌^◌, ◌<◌, ◌≤◌, min, Bool, true, ◌&&◌, ◌==◌, List, [], ◌∷◌, length, is_none, All, Option, Some, None, refl, sym, ◌∙◌, arith}
use Rattle.std.specs.Prelude.{nat_lt, nat_le}
use Rattle.std.specs.List.{list_all}
use Rattle.std.proofs.lemmas.Bool.{and_parts, ltb-true, leb-true}
use Rattle.std.proofs.lemmas.List.Elements.{All-cons, All-nil}
use Rattle.wire_fields.specs.Text.{is_text}
use Rattle.topic_model.specs.Levels.{text_of_levels}
use Rattle.topic_model.specs.Texts.{topic_refusal}
use Rattle.topic_model.specs.StoredMessage.{StoredMessage}
use Rattle.topic_name.specs.KeptMessage.{ColdPlace, KeptMessage}
use Rattle.shard_model.specs.ShardList.{Awaited}
use Rattle.session_codec.specs.HasSpelling.{fits_u8, fits_u16, fits_u64, fits_text, are_levels}
use Rattle.session_codec.specs.Taking.{IsShort, most_count}
use Rattle.session_codec.specs.CountLaws.{all_from}
use Rattle.record_codec.specs.declared.formats.TheConstants.{MOST_OPERATIONS, MOST_GENERATIONS}
use Rattle.record_codec.specs.declared.group.Op.{Op}
use Rattle.record_codec.specs.declared.group.Op.TheVariants.{Store, Release, Forget}
use Rattle.record_codec.specs.Records.{KeptGroup, KeptOpening, KeptManifest, offsets_of}
use Rattle.record_codec.specs.HasSpelling.{fits_blob, fits_topic, is_list, fits_props, fits_delivery, fits_sender, fits_expiry, fits_message, fits_store, fits_op, all_in_turn, is_op_count, fit_ops, group_has_spelling, fits_awaited, opening_has_spelling, fits_cut, is_cut_count, manifest_has_spelling}
use Rattle.shard_model.specs.Capacity.{expiry_size, store_size}
use Rattle.record_codec.specs.Spelling.{spelled_op}
use Rattle.record_codec.specs.SizeLaws.{op_sized}
use Rattle.record_codec.specs.Taking.{IsTold, IsToldOp, HasShortPublisher}

short : (text : List ℕ) (others : Bool) → (fits_text text && others) ≡ true → IsShort text
short text others h =
    let p = and_parts (fits_text text) others h in
    let q = and_parts (fits_u16 (length text)) (is_text text) p.0 in
    let less : length text < 2 ^ 16 = ltb-true (length text) (2 ^ 16) q.0 in
    omega arith

no_place : (place : Option ColdPlace) → is_none place ≡ true → place ≡ None
no_place None h = refl
no_place (Some p) h = absurd cc

told_message : (m : KeptMessage) → m.place ≡ None → fits_message m.stored ≡ true → IsTold m
told_message m here h =
    let s : StoredMessage = m.stored in
    let content : Bool = fits_topic s.topic && (fits_props s.props && fits_blob s.payload) in
    let one = and_parts (fits_sender s.publisher s.incarnation) (fits_delivery s.id s.qos && (fits_u64 s.stamp && (fits_expiry s.expiry && content))) h in
    let two = and_parts (fits_delivery s.id s.qos) (fits_u64 s.stamp && (fits_expiry s.expiry && content)) one.1 in
    let three = and_parts (fits_u64 s.stamp) (fits_expiry s.expiry && content) two.1 in
    let four = and_parts (fits_expiry s.expiry) content three.1 in
    let five = and_parts (fits_topic s.topic) (fits_props s.props && fits_blob s.payload) four.1 in
    let six = and_parts (fits_props s.props) (fits_blob s.payload) five.1 in
    let props = and_parts (fits_blob s.props) (is_list s.props) six.0 in
    let text : List ℕ = text_of_levels s.topic in
    record {
      publisher = short s.publisher (fits_u64 s.incarnation) one.0;
      topic = short text (is_none (topic_refusal text) && are_levels s.topic) five.0;
      props = ltb-true (length s.props) (2 ^ 32) props.0;
      payload = ltb-true (length s.payload) (2 ^ 32) six.1;
      here = here;
    }

told_store : (offset : ℕ) (m : KeptMessage) → fits_store offset m ≡ true → IsTold m
told_store offset m h =
    let p = and_parts ((m.stored.offset == offset) && fits_u64 offset) (is_none m.place && fits_message m.stored) h in
    let q = and_parts (is_none m.place) (fits_message m.stored) p.1 in
    told_message m (no_place m.place q.0) q.1

told_op : (offset : ℕ) (op : Op) → fits_op offset op ≡ true → IsToldOp op
told_op offset (Store m) h = told_store offset m h
told_op offset (Release publisher incarnation id) h =
    short publisher (fits_u64 incarnation) (and_parts (fits_sender publisher incarnation) (fits_u16 id) h).0
told_op offset (Forget publisher incarnation) h = short publisher (fits_u64 incarnation) h

told_ops : (offset : ℕ) (ops : List Op) → all_in_turn fits_op offsets_of offset ops ≡ true → All IsToldOp ops
told_ops offset [] h = All-nil IsToldOp
told_ops offset (op ∷ ops) h =
    let p = and_parts (fits_op offset op) (all_in_turn fits_op offsets_of (offset + offsets_of op) ops) h in
    All-cons IsToldOp op ops (told_op offset op p.0) (told_ops (offset + offsets_of op) ops p.1)

pub group_told : (g : KeptGroup) → group_has_spelling g ≡ true → All IsToldOp g.ops
group_told g h =
    let p = and_parts (fits_u64 g.first) (fit_ops g.first g.ops) h in
    told_ops g.first g.ops (and_parts (is_op_count (length g.ops)) (all_in_turn fits_op offsets_of g.first g.ops) p.1).1

pub group_few : (g : KeptGroup) → group_has_spelling g ≡ true → length g.ops ≤ MOST_OPERATIONS
group_few g h =
    let p = and_parts (fits_u64 g.first) (fit_ops g.first g.ops) h in
    let q = and_parts (is_op_count (length g.ops)) (all_in_turn fits_op offsets_of g.first g.ops) p.1 in
    leb-true (length g.ops) MOST_OPERATIONS (and_parts (nat_lt 0 (length g.ops)) (nat_le (length g.ops) MOST_OPERATIONS) q.0).1

short_publisher : (a : Awaited) → fits_awaited a ≡ true → HasShortPublisher a
short_publisher a h = short a.publisher (fits_u64 a.incarnation) (and_parts (fits_sender a.publisher a.incarnation) (fits_u16 a.id) h).0

opening_parts : (o : KeptOpening) → opening_has_spelling o ≡ true → (fits_u16 (length o.awaited) ≡ true) × (list_all fits_awaited o.awaited ≡ true)
opening_parts o h =
    let all : Bool = fits_u16 (length o.awaited) && list_all fits_awaited o.awaited in
    let p = and_parts (fits_u64 o.generation) (fits_u64 o.first && all) h in
    let q = and_parts (fits_u64 o.first) all p.1 in
    and_parts (fits_u16 (length o.awaited)) (list_all fits_awaited o.awaited) q.1

pub opening_told : (o : KeptOpening) → opening_has_spelling o ≡ true → All HasShortPublisher o.awaited
opening_told o h = all_from fits_awaited HasShortPublisher short_publisher o.awaited (opening_parts o h).1

pub opening_few : (o : KeptOpening) → opening_has_spelling o ≡ true → length o.awaited ≤ most_count
opening_few o h =
    let less : length o.awaited < 2 ^ 16 = ltb-true (length o.awaited) (2 ^ 16) (opening_parts o h).0 in omega arith

pub manifest_few : (m : KeptManifest) → manifest_has_spelling m ≡ true → length m.cuts ≤ MOST_GENERATIONS
manifest_few m h =
    let all : Bool = is_cut_count (length m.cuts) && list_all fits_cut m.cuts in
    let p = and_parts (fits_u8 m.shards) (fits_u8 m.workers && (fits_u8 m.shard && all)) h in
    let q = and_parts (fits_u8 m.workers) (fits_u8 m.shard && all) p.1 in
    let r = and_parts (fits_u8 m.shard) all q.1 in
    let s = and_parts (is_cut_count (length m.cuts)) (list_all fits_cut m.cuts) r.1 in
    leb-true (length m.cuts) MOST_GENERATIONS (and_parts (nat_lt 0 (length m.cuts)) (nat_le (length m.cuts) MOST_GENERATIONS) s.0).1

-- ---- the size of a Store

small_expiry : (e : Option ℕ) → expiry_size e ≤ 4
small_expiry None = omega arith
small_expiry (Some seconds) = omega arith

-- of a message that has a spelling the size is a number of eight bytes, and so many bytes are written
pub store_written : (m : KeptMessage) (n : ℕ) → fits_message m.stored ≡ true → n ≡ min (store_size m.stored) (2 ^ 64 - 1) →
    n ≡ length (spelled_op (Store m))
store_written m n h is =
    let s : StoredMessage = m.stored in
    let k : KeptMessage = record { stored = s; place = None } in
    let t = told_message k refl h in
    let publisher : length s.publisher ≤ 65535 = t.publisher in
    let topic : length (text_of_levels s.topic) ≤ 65535 = t.topic in
    let props : length s.props < 2 ^ 32 = t.props in
    let payload : length s.payload < 2 ^ 32 = t.payload in
    let e = small_expiry s.expiry in
    let size : length (spelled_op (Store m)) ≡ store_size s = op_sized (Store m) in
    is_small n (store_size s) is (omega arith) ∙ sym size
  where
    is_small : (n size : ℕ) → n ≡ min size (2 ^ 64 - 1) → size < 2 ^ 64 → n ≡ size
    is_small n size is less = omega arith
