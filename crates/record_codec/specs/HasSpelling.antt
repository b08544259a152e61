-- Which records have a spelling: each number, count and text is within its field's range, an identifier is 0 unless the QoS is 2, the
-- properties are a list, the Stores of a group have consecutive offsets from its first on, and their bodies are in memory.
use Rattle.std.specs.Prelude.{ℕ, ◌+◌, ◌==◌, ◌&&◌, ◌||◌, nat_lt, nat_le, Bool, true, List, [], ◌∷◌, length, is_none, is_ok, Option, Some, None}
use Rattle.std.specs.List.{list_all}
use Rattle.topic_model.specs.Levels.{text_of_levels}
use Rattle.topic_model.specs.Texts.{topic_refusal}
use Rattle.topic_model.specs.StoredMessage.{StoredMessage}
use Rattle.topic_name.specs.declared.descriptor.Descriptor.{Descriptor}
use Rattle.topic_name.specs.KeptMessage.{KeptMessage}
use Rattle.mqtt_props.specs.declared.table.Holder.TheVariants.{Publish}
use Rattle.mqtt_props.specs.Props.{bare_props}
use Rattle.shard_model.specs.ShardList.{Awaited}
use Rattle.session_codec.specs.HasSpelling.{fits_u8, fits_u16, fits_u32, fits_u64, fits_text, are_levels, fits_parting}
use Rattle.record_codec.specs.declared.formats.TheConstants.{MOST_OPERATIONS, MOST_GENERATIONS}
use Rattle.record_codec.specs.declared.group.Op.{Op}
use Rattle.record_codec.specs.declared.group.Op.TheVariants.{Store, Release, Forget}
use Rattle.record_codec.specs.Records.{KeptGroup, KeptOpening, KeptManifest, offsets_of}

-- ---- fields

abbrev pub fits_blob : List ℕ → Bool
fits_blob bytes = fits_u32 (length bytes)

-- the levels of a topic name (MQTT 4.7)
abbrev pub fits_topic : List (List ℕ) → Bool
fits_topic levels =
    fits_text (text_of_levels levels) && (is_none (topic_refusal (text_of_levels levels)) && are_levels levels)

-- a list of properties that a PUBLISH may have, without its length in front (MQTT 2.2.2, 3.3.2.3)
unfoldable pub is_list : List ℕ → Bool
is_list bytes = is_ok (bare_props Publish bytes)

abbrev pub fits_props : List ℕ → Bool
fits_props bytes = fits_blob bytes && is_list bytes

-- the packet identifier of a QoS: only QoS 2 has one here
abbrev pub is_id_of : ℕ → ℕ → Bool
is_id_of qos id = (qos == 2) || (id == 0)

abbrev pub fits_delivery : ℕ → ℕ → Bool
fits_delivery id qos = (fits_u16 id && fits_u8 qos) && is_id_of qos id

abbrev pub fits_sender : List ℕ → ℕ → Bool
fits_sender publisher incarnation = fits_text publisher && fits_u64 incarnation

abbrev pub fits_expiry : Option ℕ → Bool
fits_expiry None = true
fits_expiry (Some seconds) = fits_u32 seconds

-- ---- groups

-- what is told of a message, where its expiry is as this test says
abbrev pub fits_message_if : Bool → StoredMessage → Bool
fits_message_if expires m =
    fits_sender m.publisher m.incarnation
    && (fits_delivery m.id m.qos
    && (fits_u64 m.stamp && (expires && (fits_topic m.topic && (fits_props m.props && fits_blob m.payload)))))

abbrev pub fits_message : StoredMessage → Bool
fits_message m = fits_message_if (fits_expiry m.expiry) m

-- a message with this offset, whose body is in memory
abbrev pub fits_store : ℕ → KeptMessage → Bool
fits_store offset m = ((m.stored.offset == offset) && fits_u64 offset) && (is_none m.place && fits_message m.stored)

-- an operation where this offset is the next
abbrev pub fits_op : ℕ → Op → Bool
fits_op offset (Store m) = fits_store offset m
fits_op offset (Release publisher incarnation id) = fits_sender publisher incarnation && fits_u16 id
fits_op offset (Forget publisher incarnation) = fits_sender publisher incarnation

-- operations, each of which takes its offsets after those before it: the test is of the next offset and an element
abbrev pub all_in_turn : {A : Type 0} → (ℕ → A → Bool) → (A → ℕ) → ℕ → List A → Bool
all_in_turn test takes offset [] = true
all_in_turn test takes offset (x ∷ xs) = test offset x && all_in_turn test takes (offset + takes x) xs

-- a group has 1 to 256 operations
abbrev pub is_op_count : ℕ → Bool
is_op_count count = nat_lt 0 count && nat_le count MOST_OPERATIONS

abbrev pub fit_ops : ℕ → List Op → Bool
fit_ops first ops = is_op_count (length ops) && all_in_turn fits_op offsets_of first ops

abbrev pub group_has_spelling : KeptGroup → Bool
group_has_spelling g = fits_u64 g.first && fit_ops g.first g.ops

-- ---- openings

abbrev pub fits_awaited : Awaited → Bool
fits_awaited a = fits_sender a.publisher a.incarnation && fits_u16 a.id

abbrev pub opening_has_spelling : KeptOpening → Bool
opening_has_spelling o =
    fits_u64 o.generation && (fits_u64 o.first && (fits_u16 (length o.awaited) && list_all fits_awaited o.awaited))

-- ---- manifests

-- no moment is the greatest number, which tells that there is none
abbrev pub fits_cut : Descriptor → Bool
fits_cut d =
    fits_u64 d.number
    && (fits_u8 d.slot
    && (fits_u64 d.first && (fits_u16 d.top && (fits_u16 d.below && (fits_u32 d.messages && fits_parting d.sealed)))))

-- a manifest has 1 to 8 generations
abbrev pub is_cut_count : ℕ → Bool
is_cut_count count = nat_lt 0 count && nat_le count MOST_GENERATIONS

abbrev pub manifest_has_spelling : KeptManifest → Bool
manifest_has_spelling m =
    fits_u8 m.shards
    && (fits_u8 m.workers && (fits_u8 m.shard && (is_cut_count (length m.cuts) && list_all fits_cut m.cuts)))
