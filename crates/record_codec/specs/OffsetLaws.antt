-- The offsets of a group's messages.
use Rattle.std.proofs.Common.{◌≡◌, ℕ, ◌+◌, true, ◌&&◌, ◌==◌, List, [], ◌∷◌, length, map, is_none, refl, ap, ◌∙◌, arith}
use Rattle.std.proofs.lemmas.Bool.{and_parts, eqb-true}
use Rattle.topic_model.specs.StoredMessage.{StoredMessage}
use Rattle.topic_name.specs.KeptMessage.{KeptMessage}
use Rattle.shard_model.specs.SweepOrder.{counted_from}
use Rattle.session_codec.specs.HasSpelling.{fits_u64}
use Rattle.record_codec.specs.declared.group.Op.{Op}
use Rattle.record_codec.specs.declared.group.Op.TheVariants.{Store, Release, Forget}
use Rattle.record_codec.specs.Records.{KeptGroup, offsets_of, messages_of}
use Rattle.record_codec.specs.HasSpelling.{fits_message, fits_store, fits_op, all_in_turn, is_op_count, fit_ops, group_has_spelling}

-- the offsets of messages
abbrev pub offsets_in : List StoredMessage → List ℕ
offsets_in ms = map (λ (m : StoredMessage). m.offset) ms

offset_of : (offset : ℕ) (m : KeptMessage) → fits_store offset m ≡ true → m.stored.offset ≡ offset
offset_of offset m h =
    let p = and_parts ((m.stored.offset == offset) && fits_u64 offset) (is_none m.place && fits_message m.stored) h in
    eqb-true m.stored.offset offset (and_parts (m.stored.offset == offset) (fits_u64 offset) p.0).0

-- they are consecutive
in_turn : (offset : ℕ) (ops : List Op) → all_in_turn fits_op offsets_of offset ops ≡ true →
    offsets_in (messages_of ops) ≡ counted_from offset (length (messages_of ops))
in_turn offset [] h = refl
in_turn offset (Store m ∷ ops) h =
    let p = and_parts (fits_store offset m) (all_in_turn fits_op offsets_of (offset + 1) ops) h in
    let first : m.stored.offset ≡ offset = offset_of offset m p.0 in
    let rest : offsets_in (messages_of ops) ≡ counted_from (offset + 1) (length (messages_of ops)) = in_turn (offset + 1) ops p.1 in
    (λ i. first i ∷ rest i)
in_turn offset (Release publisher incarnation id ∷ ops) h =
    let p = and_parts (fits_op offset (Release publisher incarnation id)) (all_in_turn fits_op offsets_of (offset + 0) ops) h in
    let same : offset + 0 ≡ offset = omega arith in
    in_turn (offset + 0) ops p.1 ∙ ap (λ k. counted_from k (length (messages_of ops))) same
in_turn offset (Forget publisher incarnation ∷ ops) h =
    let p = and_parts (fits_op offset (Forget publisher incarnation)) (all_in_turn fits_op offsets_of (offset + 0) ops) h in
    let same : offset + 0 ≡ offset = omega arith in
    in_turn (offset + 0) ops p.1 ∙ ap (λ k. counted_from k (length (messages_of ops))) same

pub consecutive : (g : KeptGroup) → group_has_spelling g ≡ true → offsets_in (messages_of g.ops) ≡ counted_from g.first (length (messages_of g.ops))
consecutive g h =
    let p = and_parts (fits_u64 g.first) (fit_ops g.first g.ops) h in
    in_turn g.first g.ops (and_parts (is_op_count (length g.ops)) (all_in_turn fits_op offsets_of g.first g.ops) p.1).1
