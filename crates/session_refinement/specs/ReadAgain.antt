-- What a batch gives when it is read again from its shard's list.
use Rattle.std.specs.Prelude.{ℕ, ◌+◌, Bool, true, false, ◌&&◌, ◌||◌, ◌==◌, nat_le, nat_lt, if◌then◌else◌, List, [], ◌∷◌}
use Rattle.std.specs.Prelude.{map, filter}
use Rattle.std.specs.List.{flat_map, list_any}
use Rattle.topic_model.specs.Profile.{Profile}
use Rattle.topic_model.specs.StoredMessage.{StoredMessage}
use Rattle.topic_model.specs.Matching.{matches}
use Rattle.shard_model.specs.ShardList.{ShardList, Cut}
use Rattle.shard_model.specs.Streams.{StreamMessage, HeldGeneration, held_generations}
use Rattle.session_model.specs.declared.entry.Entry.{Entry}
use Rattle.session_model.specs.declared.entry.Kind.{Kind}
use Rattle.session_model.specs.declared.entry.Version.{Version}
use Rattle.session_state.specs.declared.batch.Batch.{Batch}
use Rattle.turn_model.specs.Delivery.{Reader, is_own, loud_kind, silent_if, delivery_length}
use Rattle.turn_model.specs.Batch.{entry_of, count1, count2}

-- ---- the messages

-- of the batch's stream, from its first offset up to the one behind its last, and matched by the filter
abbrev pub is_in_batch : List (List ℕ) → Batch → StreamMessage → Bool
is_in_batch filter b s =
    (s.stream == b.stream)
    && ((nat_le b.from s.message.offset && nat_lt s.message.offset b.to) && matches filter s.message.topic)

abbrev pub messages_of_batch : List (List ℕ) → Batch → List StreamMessage → List StoredMessage
messages_of_batch wish b ss = map (λ (s : StreamMessage). s.message) (filter (is_in_batch wish b) ss)

-- those of a generation, if it is the batch's
abbrev pub messages_if : Bool → List (List ℕ) → Batch → HeldGeneration → List StoredMessage
messages_if true wish b g = messages_of_batch wish b g.messages
messages_if false wish b g = []

-- the messages of a batch in its shard's list, none where its generation is gone
abbrev pub messages_again : Profile → ShardList → List (List ℕ) → Batch → List StoredMessage
messages_again profile list wish b =
    flat_map (λ (g : HeldGeneration). messages_if (g.cut.number == b.generation) wish b g)
    (held_generations profile list)

-- the list holds the generation with this number
abbrev pub holds : ShardList → ℕ → Bool
holds list generation = list_any (λ (c : Cut). c.number == generation) list.cuts

-- ---- the entries

-- for whom a batch is read: its client under the batch's version, with the batch's limit
abbrev pub reader_again : List ℕ → Version → Batch → Reader
reader_again client v b =
    record { client = client; limit = b.limit; subscription = v.subscription; version = v; shard = b.shard }

-- Sent to nobody: an own message under No Local (MQTT 3.8.3.1), and one whose packet is longer than the limit (MQTT
-- 3.1.2.11.4). The limit of messages that had expired is 0, which every packet is longer than.
abbrev pub is_silent_again : Reader → StoredMessage → Kind → Bool
is_silent_again r m kind = is_own r m || nat_lt r.limit (delivery_length r.version m kind)

-- the kind that a message was issued as, with the next numbers of the two tracks
abbrev pub kind_again : Reader → StoredMessage → ℕ → ℕ → Kind
kind_again r m next1 next2 = silent_if (is_silent_again r m (loud_kind r.version m next1 next2))
    (loud_kind r.version m next1 next2)

-- messages as they were issued, the numbers of each track going on from these
abbrev pub again_from : Reader → ℕ → ℕ → List StoredMessage → List Entry
again_from r next1 next2 [] = []
again_from r next1 next2 (m ∷ ms) =
    let kind = kind_again r m next1 next2 in
    entry_of r m kind ∷ again_from r (next1 + count1 kind) (next2 + count2 kind) ms

-- What a batch gives when it is read again from a list that holds its generation: its messages there, each with its
-- kind under the batch's version and limit, and the numbers going on from the batch's first ones.
abbrev pub entries_again : Profile → ShardList → List ℕ → Version → List (List ℕ) → Batch → List Entry
entries_again profile list client v wish b =
    again_from (reader_again client v b) b.first1 b.first2 (messages_again profile list wish b)

-- the limit that a batch keeps of the one at its issue: 0 where its messages had expired
abbrev pub kept_limit : Bool → ℕ → ℕ
kept_limit expired limit = if expired then 0 else limit
