-- How the records of a shard's disks are spelled: groups of operations, openings of generations, and manifests.
use Rattle.std.specs.Prelude.{ℕ, List, [], ◌++◌, length, Option, Some, None}
use Rattle.std.specs.List.{flat_map}
use Rattle.wire_fields.specs.Spelled.{spelled_u8, spelled_u16, spelled_u32, spelled_u64, spelled_text}
use Rattle.topic_model.specs.Levels.{text_of_levels}
use Rattle.topic_model.specs.StoredMessage.{StoredMessage}
use Rattle.topic_name.specs.declared.descriptor.Descriptor.{Descriptor}
use Rattle.shard_model.specs.ShardList.{Awaited}
use Rattle.session_codec.specs.Spelling.{spelled_moment}
use Rattle.record_codec.specs.declared.formats.TheConstants.{GROUP, OPENING, MANIFEST_FORMAT, RECORD_FORMAT}
use Rattle.record_codec.specs.declared.group.Op.{Op}
use Rattle.record_codec.specs.declared.group.Op.TheVariants.{Store, Release, Forget}
use Rattle.record_codec.specs.Records.{KeptGroup, KeptOpening, KeptManifest}

-- ---- fields

-- bytes, with how many they are in four bytes
abbrev pub spelled_blob : List ℕ → List ℕ
spelled_blob bytes = spelled_u32 (length bytes) ++ bytes

-- the levels of a topic name, as its text
abbrev pub spelled_topic : List (List ℕ) → List ℕ
spelled_topic levels = spelled_text (text_of_levels levels)

-- a message that stays for ever has no bytes for it
abbrev pub spelled_expiry : Option ℕ → List ℕ
spelled_expiry None = []
spelled_expiry (Some seconds) = spelled_u32 seconds

-- who published, and in which session
abbrev pub spelled_sender : List ℕ → ℕ → List ℕ
spelled_sender publisher incarnation = spelled_text publisher ++ spelled_u64 incarnation

-- an identifier of a publisher's session
abbrev pub spelled_triple : List ℕ → ℕ → ℕ → List ℕ
spelled_triple publisher incarnation id = spelled_sender publisher incarnation ++ spelled_u16 id

-- ---- groups

-- the byte that tells the kind of an operation: a Store of a message that expires has its own
abbrev pub store_tag : Option ℕ → ℕ
store_tag None = 1
store_tag (Some seconds) = 4

abbrev pub tag_of : Op → ℕ
tag_of (Store m) = store_tag m.stored.expiry
tag_of (Release publisher incarnation id) = 2
tag_of (Forget publisher incarnation) = 3

-- what is told of a message behind its publisher
abbrev pub spelled_told : StoredMessage → List ℕ
spelled_told m =
    (spelled_u16 m.id ++ spelled_u8 m.qos)
    ++ (spelled_u64 m.stamp
    ++ (spelled_expiry m.expiry ++ (spelled_topic m.topic ++ (spelled_blob m.props ++ spelled_blob m.payload))))

-- a message without its offset, which its place in the group tells
abbrev pub spelled_message : StoredMessage → List ℕ
spelled_message m = spelled_sender m.publisher m.incarnation ++ spelled_told m

-- what stands behind the kind
abbrev pub spelled_body : Op → List ℕ
spelled_body (Store m) = spelled_message m.stored
spelled_body (Release publisher incarnation id) = spelled_triple publisher incarnation id
spelled_body (Forget publisher incarnation) = spelled_sender publisher incarnation

abbrev pub spelled_op : Op → List ℕ
spelled_op op = spelled_u8 (tag_of op) ++ spelled_body op

-- operations, with how many there are
abbrev pub spelled_ops : List Op → List ℕ
spelled_ops ops = spelled_u16 (length ops) ++ flat_map spelled_op ops

abbrev pub spelled_group : KeptGroup → List ℕ
spelled_group g = spelled_u8 GROUP ++ (spelled_u64 g.first ++ spelled_ops g.ops)

-- ---- openings

-- an identifier that is awaited (MQTT 4.3.3)
abbrev pub spelled_awaited : Awaited → List ℕ
spelled_awaited a = spelled_triple a.publisher a.incarnation a.id

-- all that is awaited, with how many there are
abbrev pub spelled_all_awaited : List Awaited → List ℕ
spelled_all_awaited awaited = spelled_u16 (length awaited) ++ flat_map spelled_awaited awaited

abbrev pub spelled_opening : KeptOpening → List ℕ
spelled_opening o = spelled_u8 OPENING ++ (spelled_u64 o.generation ++ (spelled_u64 o.first ++ spelled_all_awaited o.awaited))

-- ---- manifests

-- a generation, and the format of its records; where it isn't sealed, all bits of the moment are set
abbrev pub spelled_cut : Descriptor → List ℕ
spelled_cut d =
    spelled_u64 d.number
    ++ (spelled_u8 d.slot
    ++ (spelled_u8 RECORD_FORMAT
    ++ (spelled_u64 d.first
    ++ (spelled_u16 d.top ++ (spelled_u16 d.below ++ (spelled_u32 d.messages ++ spelled_moment d.sealed))))))

-- generations, with how many there are in one byte
abbrev pub spelled_cuts : List Descriptor → List ℕ
spelled_cuts cuts = spelled_u8 (length cuts) ++ flat_map spelled_cut cuts

abbrev pub spelled_manifest : KeptManifest → List ℕ
spelled_manifest m =
    spelled_u8 MANIFEST_FORMAT
    ++ (spelled_u8 m.shards ++ (spelled_u8 m.workers ++ (spelled_u8 m.shard ++ spelled_cuts m.cuts)))
