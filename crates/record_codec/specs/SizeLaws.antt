-- A spelling is as long as its size tells.
use Rattle.std.proofs.Common.{◌≡◌, ℕ, suc, ◌+◌, ◌-◌, ◌*◌, ◌^◌, ◌<◌, min, List, [], ◌∷◌, ◌++◌, length, get_or, take, Option, Some, None, refl, sym, ap, ◌∙◌, arith, mul-suc}
use Rattle.std.specs.List.{flat_map, sum_by}
use Rattle.std.proofs.lemmas.List.{length-append}
use Rattle.std.proofs.lemmas.List.Sums.{sum_by-cons, sum_by_more}
use Rattle.wire_fields.specs.Spelled.{spelled_u16, spelled_u32, spelled_u64, spelled_text}
use Rattle.topic_model.specs.Levels.{text_of_levels}
use Rattle.topic_model.specs.StoredMessage.{StoredMessage}
use Rattle.topic_name.specs.declared.descriptor.Descriptor.{Descriptor}
use Rattle.shard_model.specs.ShardList.{Awaited}
use Rattle.shard_model.specs.Capacity.{expiry_size, store_size}
use Rattle.session_codec.specs.Spelling.{spelled_moment}
use Rattle.record_codec.specs.declared.group.Op.{Op}
use Rattle.record_codec.specs.declared.group.Op.TheVariants.{Store, Release, Forget}
use Rattle.record_codec.specs.Records.{KeptGroup, KeptOpening, KeptManifest, messages_of}
use Rattle.record_codec.specs.Spelling.{spelled_blob, spelled_topic, spelled_expiry, spelled_sender, spelled_triple, spelled_told, spelled_message, spelled_op, spelled_group, spelled_awaited, spelled_opening, spelled_cut, spelled_manifest}
use Rattle.record_codec.specs.Sizes.{op_size, counted_size, stores_size, group_size, awaited_size, opening_size, cut_size, manifest_size}

-- parts that are all as long as a size tells
each_sized : {A : Type 0} (f : A → List ℕ) (size : A → ℕ) → ((x : A) → length (f x) ≡ size x) → (xs : List A) → length (flat_map f xs) ≡ sum_by size xs
each_sized f size h [] = refl
each_sized f size h (x ∷ xs) =
    let rest : length (flat_map f xs) ≡ sum_by size xs = each_sized f size h xs in
    length-append (f x) (flat_map f xs) ∙ ap (λ n. n + length (flat_map f xs)) (h x) ∙ ap (λ n. size x + n) rest ∙ sym (sum_by-cons size x xs)

-- or all of one length
all_sized : {A : Type 0} (f : A → List ℕ) (size : ℕ) → ((x : A) → length (f x) ≡ size) → (xs : List A) → length (flat_map f xs) ≡ size * length xs
all_sized f size h [] = omega arith
all_sized f size h (x ∷ xs) =
    let rest : length (flat_map f xs) ≡ size * length xs = all_sized f size h xs in
    length-append (f x) (flat_map f xs) ∙ ap (λ n. n + length (flat_map f xs)) (h x) ∙ ap (λ n. size + n) rest ∙ one_more size (length xs)
  where
    one_more : (a n : ℕ) → a + a * n ≡ a * suc n
    one_more a n = grind (arith, mul-suc)

-- ---- fields

text_sized : (text : List ℕ) → length (spelled_text text) ≡ 2 + length text
text_sized text = length-append (spelled_u16 (length text)) text

blob_sized : (bytes : List ℕ) → length (spelled_blob bytes) ≡ 4 + length bytes
blob_sized bytes = length-append (spelled_u32 (length bytes)) bytes

expiry_sized : (e : Option ℕ) → length (spelled_expiry e) ≡ expiry_size e
expiry_sized None = refl
expiry_sized (Some seconds) = refl

sender_sized : (publisher : List ℕ) (incarnation : ℕ) → length (spelled_sender publisher incarnation) ≡ 10 + length publisher
sender_sized publisher incarnation =
    let t = text_sized publisher in
    let s : length (spelled_sender publisher incarnation) ≡ length (spelled_text publisher) + 8 = length-append (spelled_text publisher) (spelled_u64 incarnation) in
    omega arith

triple_sized : (publisher : List ℕ) (incarnation id : ℕ) → length (spelled_triple publisher incarnation id) ≡ 12 + length publisher
triple_sized publisher incarnation id =
    let s = sender_sized publisher incarnation in
    let t : length (spelled_triple publisher incarnation id) ≡ length (spelled_sender publisher incarnation) + 2 = length-append (spelled_sender publisher incarnation) (spelled_u16 id) in
    omega arith

-- ---- groups

told_sized : (m : StoredMessage) → length (spelled_told m) ≡ 11 + expiry_size m.expiry + (2 + length (text_of_levels m.topic)) + (4 + length m.props) + (4 + length m.payload)
told_sized m =
    let e = expiry_sized m.expiry in
    let t : length (spelled_topic m.topic) ≡ 2 + length (text_of_levels m.topic) = text_sized (text_of_levels m.topic) in
    let p = blob_sized m.props in
    let b = blob_sized m.payload in
    let blobs : List ℕ = spelled_blob m.props ++ spelled_blob m.payload in
    let one : length blobs ≡ length (spelled_blob m.props) + length (spelled_blob m.payload) = length-append (spelled_blob m.props) (spelled_blob m.payload) in
    let two : length (spelled_topic m.topic ++ blobs) ≡ length (spelled_topic m.topic) + length blobs = length-append (spelled_topic m.topic) blobs in
    let three : length (spelled_expiry m.expiry ++ (spelled_topic m.topic ++ blobs)) ≡ length (spelled_expiry m.expiry) + length (spelled_topic m.topic ++ blobs) =
    length-append (spelled_expiry m.expiry) (spelled_topic m.topic ++ blobs) in
    omega arith

pub message_sized : (m : StoredMessage) → 1 + length (spelled_message m) ≡ store_size m
message_sized m =
    let s = sender_sized m.publisher m.incarnation in
    let t = told_sized m in
    let all : length (spelled_message m) ≡ length (spelled_sender m.publisher m.incarnation) + length (spelled_told m) =
    length-append (spelled_sender m.publisher m.incarnation) (spelled_told m) in
    omega arith

pub op_sized : (op : Op) → length (spelled_op op) ≡ op_size op
op_sized (Store m) = let s = message_sized m.stored in omega arith
op_sized (Release publisher incarnation id) = let t = triple_sized publisher incarnation id in omega arith
op_sized (Forget publisher incarnation) = let s = sender_sized publisher incarnation in omega arith

pub group_sized : (g : KeptGroup) → length (spelled_group g) ≡ group_size g
group_sized g = let e = each_sized spelled_op op_size op_sized g.ops in omega arith

-- what a generation's limit counts of operations is the size of their messages
pub stores_counted : (ops : List Op) → stores_size ops ≡ sum_by store_size (messages_of ops)
stores_counted [] = refl
stores_counted (Store m ∷ ops) =
    let rest : stores_size ops ≡ sum_by store_size (messages_of ops) = stores_counted ops in
    sum_by-cons counted_size (Store m) ops ∙ ap (λ n. store_size m.stored + n) rest ∙ sym (sum_by-cons store_size m.stored (messages_of ops))
stores_counted (Release publisher incarnation id ∷ ops) =
    let all = sum_by-cons counted_size (Release publisher incarnation id) ops in let rest = stores_counted ops in omega arith
stores_counted (Forget publisher incarnation ∷ ops) =
    let all = sum_by-cons counted_size (Forget publisher incarnation) ops in let rest = stores_counted ops in omega arith

-- one more operation, where no total passes the greatest number
pub one_more_counted : (ops : List Op) (i : ℕ) (op : Op) (total one next : ℕ) → i < length ops → op ≡ get_or ops i op →
    total ≡ min (stores_size (take i ops)) (2 ^ 64 - 1) → one ≡ min (counted_size op) (2 ^ 64 - 1) → next ≡ min (total + one) (2 ^ 64 - 1) →
    next ≡ min (stores_size (take (i + 1) ops)) (2 ^ 64 - 1)
one_more_counted ops i op total one next less at so_far is sum =
    let more : stores_size (take (i + 1) ops) ≡ stores_size (take i ops) + counted_size (get_or ops i op) = sum_by_more counted_size ops i op less in
    let same : counted_size (get_or ops i op) ≡ counted_size op = ap counted_size (sym at) in
    saturated (stores_size (take i ops)) (counted_size op) (stores_size (take (i + 1) ops)) total one next (omega arith) so_far is sum
  where
    saturated : (a b c total one next : ℕ) → c ≡ a + b → total ≡ min a (2 ^ 64 - 1) → one ≡ min b (2 ^ 64 - 1) → next ≡ min (total + one) (2 ^ 64 - 1) →
        next ≡ min c (2 ^ 64 - 1)
    saturated a b c total one next whole so_far is sum = omega arith

-- ---- openings and manifests

awaited_sized : (a : Awaited) → length (spelled_awaited a) ≡ awaited_size a
awaited_sized a = triple_sized a.publisher a.incarnation a.id

pub opening_sized : (o : KeptOpening) → length (spelled_opening o) ≡ opening_size o
opening_sized o = let e = each_sized spelled_awaited awaited_size awaited_sized o.awaited in omega arith

moment_sized : (moment : Option ℕ) → length (spelled_moment moment) ≡ 8
moment_sized None = refl
moment_sized (Some n) = refl

cut_sized : (d : Descriptor) → length (spelled_cut d) ≡ cut_size
cut_sized d = let m = moment_sized d.sealed in omega arith

pub manifest_sized : (m : KeptManifest) → length (spelled_manifest m) ≡ manifest_size m
manifest_sized m = let e = all_sized spelled_cut cut_size cut_sized m.cuts in omega arith
