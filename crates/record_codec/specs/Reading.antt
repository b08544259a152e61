-- Reading the records of a shard's disks: what bytes spell, none where they spell nothing.
use Rattle.std.specs.Prelude.{ℕ, zero, suc, ◌+◌, ◌==◌, if◌then◌else◌, is_none, Bool, true, false, List, [], Option, Some, None}
use Rattle.wire_fields.specs.Reading.{bytes_of}
use Rattle.topic_model.specs.Levels.{levels_of}
use Rattle.topic_model.specs.Texts.{topic_refusal}
use Rattle.topic_name.specs.declared.descriptor.Descriptor.{Descriptor}
use Rattle.topic_name.specs.KeptMessage.{KeptMessage}
use Rattle.shard_model.specs.ShardList.{Awaited}
use Rattle.session_codec.specs.HasSpelling.{fits_u64}
use Rattle.session_codec.specs.Reading.{◌>>=◌, then_by, both, passing, made, nothing_at, onto, counted, filling, if_field, byte_at, two_at, four_at, eight_at, name_at, parting_at}
use Rattle.record_codec.specs.declared.formats.TheConstants.{GROUP, OPENING, MANIFEST_FORMAT, RECORD_FORMAT}
use Rattle.record_codec.specs.declared.group.Op.{Op}
use Rattle.record_codec.specs.declared.group.Op.TheVariants.{Store, Release, Forget}
use Rattle.record_codec.specs.Records.{KeptGroup, KeptOpening, KeptManifest, offsets_of}
use Rattle.record_codec.specs.HasSpelling.{is_list, is_id_of, is_op_count, is_cut_count}

-- ---- fields

-- this byte
abbrev pub done : ℕ → Unit {0}
done mark = tt

abbrev pub mark_at : ℕ → List ℕ → Option (Unit {0} × List ℕ)
mark_at mark bytes = made done (passing (λ n. n == mark) byte_at) bytes

-- how many bytes there are, and so many
abbrev pub blob_at : List ℕ → Option (List ℕ × List ℕ)
blob_at bytes = four_at bytes >>= λ n. if_field (bytes_of n.0 n.1)

-- a text that is a topic name, as its levels (MQTT 4.7)
abbrev pub topic_at : List ℕ → Option (List (List ℕ) × List ℕ)
topic_at bytes = made levels_of (passing (λ text. is_none (topic_refusal text)) name_at) bytes

-- a list of properties, as its bytes
abbrev pub props_at : List ℕ → Option (List ℕ × List ℕ)
props_at bytes = passing is_list blob_at bytes

-- the packet identifier, and the QoS that may have it
abbrev pub delivery_at : List ℕ → Option ((ℕ × ℕ) × List ℕ)
delivery_at bytes = passing (λ d. is_id_of d.1 d.0) (both two_at byte_at) bytes

-- who published, and in which session
abbrev pub sender_at : List ℕ → Option ((List ℕ × ℕ) × List ℕ)
sender_at bytes = both name_at eight_at bytes

-- ---- operations

abbrev pub for_ever : Unit {0} → Option ℕ
for_ever read = None

abbrev pub expiry_at : Bool → List ℕ → Option (Option ℕ × List ℕ)
expiry_at expires bytes = if expires then made Some four_at bytes else made for_ever nothing_at bytes

-- what is told of a message
abbrev pub Told : Type 0
Told = (List ℕ × ℕ) × ((ℕ × ℕ) × (ℕ × (Option ℕ × (List (List ℕ) × (List ℕ × List ℕ)))))

abbrev pub told_at : Bool → List ℕ → Option (Told × List ℕ)
told_at expires bytes =
    both sender_at (both delivery_at (both eight_at (both (expiry_at expires) (both topic_at (both props_at blob_at))))) bytes

-- the message with this offset of which that is told, with its body in memory
abbrev pub message_of : ℕ → Told → KeptMessage
message_of offset ((publisher, incarnation), ((id, qos), (stamp, (expiry, (topic, (props, payload)))))) =
    record {
      stored = record {
        offset = offset;
        publisher = publisher;
        incarnation = incarnation;
        id = id;
        qos = qos;
        stamp = stamp;
        expiry = expiry;
        topic = topic;
        props = props;
        payload = payload;
      };
      place = None;
    }

-- no message has an offset past the greatest number
abbrev pub store_at : ℕ → Bool → List ℕ → Option (KeptMessage × List ℕ)
store_at offset expires bytes = if fits_u64 offset then made (message_of offset) (told_at expires) bytes else None

abbrev pub release_of : (List ℕ × ℕ) × ℕ → Op
release_of ((publisher, incarnation), id) = Release publisher incarnation id

abbrev pub forget_of : List ℕ × ℕ → Op
forget_of (publisher, incarnation) = Forget publisher incarnation

-- what stands behind the byte that tells the kind, where this offset is the next
abbrev pub body_at : ℕ → ℕ → List ℕ → Option (Op × List ℕ)
body_at offset tag bytes =
    if tag == 1 then made Store (store_at offset false) bytes
    else if tag == 2 then made release_of (both sender_at two_at) bytes
    else if tag == 3 then made forget_of sender_at bytes
    else if tag == 4 then made Store (store_at offset true) bytes
    else None

abbrev pub behind_tag : ℕ × Op → Op
behind_tag (tag, op) = op

abbrev pub op_at : ℕ → List ℕ → Option (Op × List ℕ)
op_at offset bytes = made behind_tag (then_by byte_at (body_at offset)) bytes

-- so many parts, each read by the next offset, of which it takes some
unfoldable pub so_many_in_turn : {A : Type 0} → (ℕ → List ℕ → Option (A × List ℕ)) → (A → ℕ) → ℕ → ℕ → List ℕ → Option (List A × List ℕ)
so_many_in_turn read takes offset zero bytes = Some ([], bytes)
so_many_in_turn read takes offset (suc n) bytes =
    read offset bytes >>= λ x. onto x (so_many_in_turn read takes (offset + takes x.0) n x.1)

-- ---- groups

abbrev pub op_count_at : List ℕ → Option (ℕ × List ℕ)
op_count_at bytes = passing is_op_count two_at bytes

abbrev pub ops_at : ℕ → List ℕ → Option (List Op × List ℕ)
ops_at first bytes = op_count_at bytes >>= λ n. so_many_in_turn op_at offsets_of first n.0 n.1

abbrev pub group_of : Unit {0} × (ℕ × List Op) → KeptGroup
group_of (mark, (first, ops)) = record { first = first; ops = ops }

abbrev pub group_at : List ℕ → Option (KeptGroup × List ℕ)
group_at bytes = made group_of (both (mark_at GROUP) (then_by eight_at ops_at)) bytes

-- the group that bytes spell
unfoldable pub group_in : List ℕ → Option KeptGroup
group_in bytes = filling group_at bytes

-- ---- openings

abbrev pub awaited_of : (List ℕ × ℕ) × ℕ → Awaited
awaited_of ((publisher, incarnation), id) = record { publisher = publisher; incarnation = incarnation; id = id }

abbrev pub awaited_at : List ℕ → Option (Awaited × List ℕ)
awaited_at bytes = made awaited_of (both sender_at two_at) bytes

abbrev pub all_awaited_at : List ℕ → Option (List Awaited × List ℕ)
all_awaited_at bytes = counted two_at awaited_at bytes

abbrev pub opening_of : Unit {0} × (ℕ × (ℕ × List Awaited)) → KeptOpening
opening_of (mark, (generation, (first, awaited))) = record { generation = generation; first = first; awaited = awaited }

abbrev pub opening_at : List ℕ → Option (KeptOpening × List ℕ)
opening_at bytes = made opening_of (both (mark_at OPENING) (both eight_at (both eight_at all_awaited_at))) bytes

-- the opening that bytes spell
unfoldable pub opening_in : List ℕ → Option KeptOpening
opening_in bytes = filling opening_at bytes

-- ---- manifests

abbrev pub cut_of : ℕ × (ℕ × (Unit {0} × (ℕ × (ℕ × (ℕ × (ℕ × Option ℕ)))))) → Descriptor
cut_of (number, (slot, (format, (first, (top, (below, (messages, sealed))))))) =
    record { number = number; slot = slot; first = first; top = top; below = below; messages = messages; sealed = sealed }

abbrev pub cut_at : List ℕ → Option (Descriptor × List ℕ)
cut_at bytes =
    made cut_of
    (both eight_at (both byte_at (both (mark_at RECORD_FORMAT) (both eight_at (both two_at (both two_at (both four_at parting_at))))))) bytes

abbrev pub cut_count_at : List ℕ → Option (ℕ × List ℕ)
cut_count_at bytes = passing is_cut_count byte_at bytes

abbrev pub cuts_at : List ℕ → Option (List Descriptor × List ℕ)
cuts_at bytes = counted cut_count_at cut_at bytes

abbrev pub manifest_of : Unit {0} × (ℕ × (ℕ × (ℕ × List Descriptor))) → KeptManifest
manifest_of (format, (shards, (workers, (shard, cuts)))) = record { shards = shards; workers = workers; shard = shard; cuts = cuts }

abbrev pub manifest_at : List ℕ → Option (KeptManifest × List ℕ)
manifest_at bytes =
    made manifest_of (both (mark_at MANIFEST_FORMAT) (both byte_at (both byte_at (both byte_at cuts_at)))) bytes

-- the manifest that bytes spell
unfoldable pub manifest_in : List ℕ → Option KeptManifest
manifest_in bytes = filling manifest_at bytes
