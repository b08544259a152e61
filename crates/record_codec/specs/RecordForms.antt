-- The forms of groups, openings and manifests.
use Rattle.std.proofs.Common.{◌≡◌, ℕ, ◌^◌, ◌≤◌, true, refl, arith}
use Rattle.std.specs.Prelude.{nat_lt, nat_le}
use Rattle.std.proofs.lemmas.Bool.{and_parts, leb-true, lt-ltb}
use Rattle.wire_fields.specs.Spelled.{spelled_u8, spelled_u16}
use Rattle.topic_name.specs.declared.descriptor.Descriptor.{Descriptor}
use Rattle.shard_model.specs.ShardList.{Awaited}
use Rattle.session_codec.specs.HasSpelling.{fits_u8, fits_u16}
use Rattle.session_codec.specs.Forms.{IsForm, IsWhole, then_form, both_form, passing_form, record_form, refit, counted_form, filling_whole}
use Rattle.session_codec.specs.PartForms.{byte_form, two_form, four_form, eight_form, parting_form, narrower}
use Rattle.record_codec.specs.declared.formats.TheConstants.{GROUP, OPENING, MANIFEST_FORMAT, RECORD_FORMAT, MOST_OPERATIONS, MOST_GENERATIONS}
use Rattle.record_codec.specs.Records.{KeptGroup, KeptOpening, KeptManifest, offsets_of}
use Rattle.record_codec.specs.Spelling.{spelled_ops, spelled_group, spelled_awaited, spelled_opening, spelled_cut, spelled_manifest}
use Rattle.record_codec.specs.HasSpelling.{is_op_count, fit_ops, group_has_spelling, fits_awaited, opening_has_spelling, fits_cut, is_cut_count, manifest_has_spelling}
use Rattle.record_codec.specs.Reading.{op_count_at, ops_at, group_of, group_at, group_in, awaited_of, awaited_at, opening_of, opening_at, opening_in, cut_of, cut_at, cut_count_at, manifest_of, manifest_at, manifest_in}
use Rattle.record_codec.specs.Forms.{counted_in_turn_form}
use Rattle.record_codec.specs.FieldForms.{mark_form, sender_form}
use Rattle.record_codec.specs.OpForms.{op_form}

-- ---- groups

few_ops : (n : ℕ) → is_op_count n ≡ true → fits_u16 n ≡ true
few_ops n h =
    let few : n ≤ MOST_OPERATIONS = leb-true n MOST_OPERATIONS (and_parts (nat_lt 0 n) (nat_le n MOST_OPERATIONS) h).1 in
    lt-ltb n (2 ^ 16) (omega arith)

op_count_form : IsForm is_op_count spelled_u16 op_count_at
op_count_form = refit is_op_count (passing_form is_op_count two_form) (narrower is_op_count fits_u16 few_ops)

ops_form : (first : ℕ) → IsForm (fit_ops first) spelled_ops (ops_at first)
ops_form first = counted_in_turn_form offsets_of op_count_form op_form first

group_form : IsForm group_has_spelling spelled_group group_at
group_form =
    record_form group_of (λ (g : KeptGroup). (tt, (g.first, g.ops))) (λ g. refl) (λ x. refl)
    (both_form (mark_form GROUP refl) (then_form eight_form (λ first h. ops_form first)))

pub group_whole : IsWhole group_has_spelling spelled_group group_in
unfolding group_in
group_whole = filling_whole group_form

-- ---- openings

awaited_form : IsForm fits_awaited spelled_awaited awaited_at
awaited_form =
    record_form awaited_of (λ (a : Awaited). ((a.publisher, a.incarnation), a.id)) (λ a. refl) (λ x. refl) (both_form sender_form two_form)

opening_form : IsForm opening_has_spelling spelled_opening opening_at
opening_form =
    record_form opening_of (λ (o : KeptOpening). (tt, (o.generation, (o.first, o.awaited)))) (λ o. refl) (λ x. refl)
    (both_form (mark_form OPENING refl) (both_form eight_form (both_form eight_form (counted_form two_form awaited_form))))

pub opening_whole : IsWhole opening_has_spelling spelled_opening opening_in
unfolding opening_in
opening_whole = filling_whole opening_form

-- ---- manifests

cut_form : IsForm fits_cut spelled_cut cut_at
cut_form =
    record_form cut_of (λ (d : Descriptor). (d.number, (d.slot, (tt, (d.first, (d.top, (d.below, (d.messages, d.sealed)))))))) (λ d. refl) (λ x. refl)
    (both_form eight_form (both_form byte_form (both_form (mark_form RECORD_FORMAT refl)
    (both_form eight_form (both_form two_form (both_form two_form (both_form four_form parting_form)))))))

few_cuts : (n : ℕ) → is_cut_count n ≡ true → fits_u8 n ≡ true
few_cuts n h =
    let few : n ≤ MOST_GENERATIONS = leb-true n MOST_GENERATIONS (and_parts (nat_lt 0 n) (nat_le n MOST_GENERATIONS) h).1 in
    lt-ltb n (2 ^ 8) (omega arith)

cut_count_form : IsForm is_cut_count spelled_u8 cut_count_at
cut_count_form = refit is_cut_count (passing_form is_cut_count byte_form) (narrower is_cut_count fits_u8 few_cuts)

manifest_form : IsForm manifest_has_spelling spelled_manifest manifest_at
manifest_form =
    record_form manifest_of (λ (m : KeptManifest). (tt, (m.shards, (m.workers, (m.shard, m.cuts))))) (λ m. refl) (λ x. refl)
    (both_form (mark_form MANIFEST_FORMAT refl)
    (both_form byte_form (both_form byte_form (both_form byte_form (counted_form cut_count_form cut_form)))))

pub manifest_whole : IsWhole manifest_has_spelling spelled_manifest manifest_in
unfolding manifest_in
manifest_whole = filling_whole manifest_form
