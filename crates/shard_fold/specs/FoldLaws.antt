-- Laws of what records hold: a record more, a new shard, and a group that is written.
use Rattle.std.proofs.Common.{◌≡◌, ℕ, ◌+◌, ◌<◌, ◌≤◌, Bool, true, false, ◌&&◌, ◌==◌, not, if◌then◌else◌, IsTrue, List, [], ◌∷◌, ◌++◌, All, length, slice_set, slice_index_or, Option, refl, sym, ap, subst, ◌∙◌, eq-eqb, eqb-true, le-leb, arith}
use Rattle.std.specs.Prelude.{is_none}
use Rattle.std.specs.List.{list_all, list_any}
use Rattle.std.specs.Cmp.Derive.{both_true}
use Rattle.std.proofs.lemmas.Bool.{and_parts, not-true, or_parts}
use Rattle.std.proofs.lemmas.List.{get_or-set_other, get_or-set_same}
use Rattle.topic_model.specs.Profile.{whole}
use Rattle.topic_name.specs.declared.descriptor.Descriptor.{Descriptor}
use Rattle.topic_name.specs.PlainConfig.{plain_config}
use Rattle.shard_model.specs.ShardList.{ShardList, next_of, opening_list}
use Rattle.shard_index.specs.Absorbing.{absorbed_all, all_stand}
use Rattle.record_codec.specs.Records.{KeptGroup, KeptOpening, index_ops}
use Rattle.record_codec.specs.Spelling.{spelled_group}
use Rattle.record_codec.specs.HasSpelling.{group_has_spelling}
use Rattle.record_codec.specs.Reading.{group_in, opening_in}
use Rattle.record_codec.specs.RecordForms.{group_whole, opening_whole}
use Rattle.record_codec.specs.ExactLaws.{read_again}
use Rattle.gated_log.specs.PlainLog.{end_of}
use Rattle.pair_log.specs.Mounted.{or_first}
use Rattle.shard_fold.specs.declared.asked.Asked.{Asked}
use Rattle.shard_fold.specs.declared.unread.Where.TheVariants.{Slot}
use Rattle.shard_fold.specs.Fold.{Folded, Holds, IsDamaged, HasAnother, all_told, and_then, are_in_row, are_sound_cuts, cuts_told, first_cut, first_manifest, first_opening, folded, generation_told, goes_on, have_own_slots, is_known_cut, is_new, later_all_told, later_told, oldest_told, opened, opened_behind, or_opening, records_of, with_group, with_record, with_records}
use Rattle.shard_fold.specs.Giving.{IsAsked}
use Rattle.shard_fold.specs.ManifestLaws.{first_told, told_sound}

-- ---- a group that is written

pub group_is_taken : (slot place : ℕ) (list : ShardList) (g : KeptGroup) → IsTrue (group_has_spelling g) → g.first ≡ next_of list →
    all_stand list (index_ops g.ops) ≡ true → length (absorbed_all (index_ops g.ops) list).awaited ≤ whole.awaited →
    with_group slot place list (group_in (spelled_group g)) ≡ Holds (absorbed_all (index_ops g.ops) list)
group_is_taken slot place list g has first stand few =
    let goes : goes_on list g ≡ true =
    both_true (eq-eqb g.first (next_of list) first) (both_true stand (le-leb (length (absorbed_all (index_ops g.ops) list).awaited) whole.awaited few)) in
    ap (with_group slot place list) (read_again group_whole g has)
    ∙ ap (λ (b : Bool). if b then Holds (absorbed_all (index_ops g.ops) list) else IsDamaged (Slot slot) place) goes

-- ---- a record behind the others of its slot

-- the slot of the newest generation
abbrev pub newest_slot : List Descriptor → ℕ
newest_slot [] = 0
newest_slot (cut ∷ []) = cut.slot
newest_slot (cut ∷ next ∷ cuts) = newest_slot (next ∷ cuts)

records_more : (slot place : ℕ) (so_far : Folded ShardList) (payloads : List (List ℕ)) (payload : List ℕ) →
    with_records slot place so_far (payloads ++ payload ∷ []) ≡ with_record slot (place + end_of payloads) payload (with_records slot place so_far payloads)
records_more slot place so_far [] payload = ap (λ n. with_record slot n payload so_far) (omega arith)
records_more slot place so_far (p ∷ payloads) payload =
    records_more slot (place + (5 + length p)) (with_record slot place p so_far) payloads payload
    ∙ ap (λ n. with_record slot n payload (with_records slot (place + (5 + length p)) (with_record slot place p so_far) payloads)) (omega arith)

generation_more : (by : Option KeptOpening → Folded ShardList) (slot : ℕ) (payloads : List (List ℕ)) (payload : List ℕ) → 0 < length payloads →
    generation_told by slot (payloads ++ payload ∷ []) ≡ with_record slot (end_of payloads) payload (generation_told by slot payloads)
generation_more by slot [] payload some = absurd (omega (arith, some))
generation_more by slot (p ∷ payloads) payload some = records_more slot (5 + length p) (by (opening_in p)) payloads payload

slot_differs : (slot : ℕ) (cut : Descriptor) (cuts : List Descriptor) → list_any (λ (other : Descriptor). slot == other.slot) (cut ∷ cuts) ≡ false →
    slot ≡ newest_slot (cut ∷ cuts) → ⊥
slot_differs slot cut [] none same =
    let one = (or_parts (slot == cut.slot) false none).0 in let e = eq-eqb slot cut.slot same in cc
slot_differs slot cut (next ∷ cuts) none same =
    slot_differs slot next cuts (or_parts (slot == cut.slot) (list_any (λ (other : Descriptor). slot == other.slot) (next ∷ cuts)) none).1 same

-- the others have other slots, and so have those behind it
own_slot : (cut next : Descriptor) (cuts : List Descriptor) → have_own_slots (cut ∷ next ∷ cuts) ≡ true →
    (cut.slot ≡ newest_slot (next ∷ cuts) → ⊥) × (have_own_slots (next ∷ cuts) ≡ true)
own_slot cut next cuts own =
    let p = and_parts (not (list_any (λ (other : Descriptor). cut.slot == other.slot) (next ∷ cuts))) (have_own_slots (next ∷ cuts)) own in
    (slot_differs cut.slot next cuts (not-true (list_any (λ (other : Descriptor). cut.slot == other.slot) (next ∷ cuts)) p.0), p.1)

-- the records of one slot have one more at their end
record HasOneMore (before after : ℕ → List (List ℕ)) (k : ℕ) (payload : List ℕ) : Type 0 where
  others : (slot : ℕ) → (slot ≡ k → ⊥) → after slot ≡ before slot
  more : after k ≡ before k ++ payload ∷ []
  some : 0 < length (before k)

module _ (before after : ℕ → List (List ℕ)) (k : ℕ) (payload : List ℕ) (has : HasOneMore before after k payload) where
  -- behind the records of the slot
  abbrev behind : Folded ShardList → Folded ShardList
  behind held = with_record k (end_of (before k)) payload held

  newest_more : (by : Option KeptOpening → Folded ShardList) (slot : ℕ) → slot ≡ k → generation_told by slot (after slot) ≡ behind (generation_told by slot (before slot))
  newest_more by slot is =
      subst (λ n. generation_told by n (after n) ≡ behind (generation_told by n (before n))) (sym is)
      (ap (generation_told by k) has.more ∙ generation_more by k (before k) payload has.some)

  last_more : (previous cut : Descriptor) (so_far : Folded ShardList) → cut.slot ≡ k →
      and_then so_far (later_told after previous cut) ≡ behind (and_then so_far (later_told before previous cut))
  last_more previous cut (Holds list) is = newest_more (opened_behind cut.slot list previous.sealed cut) cut.slot is
  last_more previous cut (IsDamaged log place) is = refl
  last_more previous cut (HasAnother what kept asked) is = refl

  later_more : (previous : Descriptor) (so_far : Folded ShardList) (cut : Descriptor) (cuts : List Descriptor) → newest_slot (cut ∷ cuts) ≡ k →
      have_own_slots (cut ∷ cuts) ≡ true → later_all_told after previous so_far (cut ∷ cuts) ≡ behind (later_all_told before previous so_far (cut ∷ cuts))
  later_more previous so_far cut [] last own = last_more previous cut so_far last
  later_more previous so_far cut (next ∷ cuts) last own =
      let p = own_slot cut next cuts own in
      let other : cut.slot ≡ k → ⊥ = λ is. p.0 (is ∙ sym last) in
      later_more cut (and_then so_far (later_told after previous cut)) next cuts last p.1
      ∙ ap (λ (l : List (List ℕ)). behind (later_all_told before cut (and_then so_far (λ list. generation_told (opened_behind cut.slot list previous.sealed cut) cut.slot l)) (next ∷ cuts)))
      (has.others cut.slot other)

  all_more : (cuts : List Descriptor) → newest_slot cuts ≡ k → have_own_slots cuts ≡ true → all_told after cuts ≡ behind (all_told before cuts)
  all_more [] last own = refl
  all_more (cut ∷ []) last own = newest_more (opened cut.slot cut) cut.slot last
  all_more (cut ∷ next ∷ cuts) last own =
      let p = own_slot cut next cuts own in
      let other : cut.slot ≡ k → ⊥ = λ is. p.0 (is ∙ sym last) in
      later_more cut (oldest_told after cut) next cuts last p.1
      ∙ ap (λ (l : List (List ℕ)). behind (later_all_told before cut (generation_told (opened cut.slot cut) cut.slot l) (next ∷ cuts))) (has.others cut.slot other)

-- a slot that has a record isn't that of a shard whose first generation was never written
some_kept : (new : Bool) (payloads : List (List ℕ)) → 0 < length payloads → or_opening new payloads ≡ payloads
some_kept new [] some = absurd (omega (arith, some))
some_kept true (payload ∷ payloads) some = refl
some_kept false (payload ∷ payloads) some = refl

more_kept : (new : Bool) (payloads : List (List ℕ)) (payload : List ℕ) → or_opening new (payloads ++ payload ∷ []) ≡ payloads ++ payload ∷ []
more_kept true [] payload = refl
more_kept false [] payload = refl
more_kept true (p ∷ payloads) payload = refl
more_kept false (p ∷ payloads) payload = refl

one_more : (slots : List (List (List ℕ))) (cuts : List Descriptor) (k : ℕ) (payload : List ℕ) → k < length slots → 0 < length (slice_index_or slots k []) →
    HasOneMore (records_of slots cuts) (records_of (slice_set slots k (slice_index_or slots k [] ++ payload ∷ [])) cuts) k payload
one_more slots cuts k payload within some =
    let records : List (List ℕ) = slice_index_or slots k [] in
    let kept : or_opening (is_new cuts) records ≡ records = some_kept (is_new cuts) records some in
    record {
      others = λ slot ne. ap (or_opening (is_new cuts)) (get_or-set_other slots k slot (records ++ payload ∷ []) [] ne);
      more = ap (or_opening (is_new cuts)) (get_or-set_same slots k (records ++ payload ∷ []) [] within)
          ∙ more_kept (is_new cuts) records payload ∙ ap (λ l. l ++ payload ∷ []) (sym kept);
      some = subst (λ l. 0 < length l) (sym kept) some;
    }

own_slots : (cuts : List Descriptor) → are_sound_cuts cuts ≡ true → have_own_slots cuts ≡ true
own_slots cuts sound =
    let p = and_parts (list_all is_known_cut cuts) (are_in_row cuts && have_own_slots cuts) sound in
    (and_parts (are_in_row cuts) (have_own_slots cuts) p.1).1

-- what is told once the generations are
pub folded_by : (asked : Asked) (manifest : List (List ℕ)) (slots : List (List (List ℕ))) (cuts : List Descriptor) →
    cuts_told asked (or_first (first_manifest asked) manifest) ≡ Holds cuts → folded asked manifest slots ≡ all_told (records_of slots cuts) cuts
unfolding folded
folded_by asked manifest slots cuts told = ap (λ (r : Folded (List Descriptor)). and_then r (λ cuts. all_told (records_of slots cuts) cuts)) told

pub record_behind : (asked : Asked) (manifest : List (List ℕ)) (slots : List (List (List ℕ))) (list : ShardList) (cuts : List Descriptor) (k : ℕ) (payload : List ℕ) →
    folded asked manifest slots ≡ Holds list → cuts_told asked (or_first (first_manifest asked) manifest) ≡ Holds cuts → newest_slot cuts ≡ k →
    k < length slots → 0 < length (slice_index_or slots k []) →
    folded asked manifest (slice_set slots k (slice_index_or slots k [] ++ payload ∷ []))
    ≡ with_group k (end_of (slice_index_or slots k [])) list (group_in payload)
record_behind asked manifest slots list cuts k payload holds told last within some =
    let records : List (List ℕ) = slice_index_or slots k [] in
    folded_by asked manifest (slice_set slots k (records ++ payload ∷ [])) cuts told
    ∙ all_more (records_of slots cuts) (records_of (slice_set slots k (records ++ payload ∷ [])) cuts) k payload (one_more slots cuts k payload within some)
    cuts last (own_slots cuts (told_sound asked (or_first (first_manifest asked) manifest) cuts told))
    ∙ ap (with_record k (end_of (records_of slots cuts k)) payload) (sym (folded_by asked manifest slots cuts told) ∙ holds)
    ∙ ap (λ (l : List (List ℕ)). with_group k (end_of l) list (group_in payload)) (some_kept (is_new cuts) records some)

-- ---- a new shard

-- its slot may have the first opening, or none
new_records : (slots : List (List (List ℕ))) (cuts : List Descriptor) → is_new cuts ≡ true → 0 < length slots → slice_index_or slots 0 [] ≡ [] →
    records_of (slice_set slots 0 (first_opening ∷ [])) cuts 0 ≡ records_of slots cuts 0
new_records slots cuts new within none =
    ap (or_opening (is_new cuts)) (get_or-set_same slots 0 (first_opening ∷ []) [] within)
    ∙ ap (λ b. or_opening b (first_opening ∷ [])) new
    ∙ sym (ap (or_opening (is_new cuts)) none ∙ ap (λ b. or_opening b []) new)

pub new_shard : (asked : Asked) (manifest : List (List ℕ)) (slots : List (List (List ℕ))) (cuts : List Descriptor) →
    cuts_told asked (or_first (first_manifest asked) manifest) ≡ Holds cuts → IsTrue (is_new cuts) → 0 < length slots → slice_index_or slots 0 [] ≡ [] →
    folded asked manifest (slice_set slots 0 (first_opening ∷ [])) ≡ folded asked manifest slots
new_shard asked manifest slots cuts told new within none =
    folded_by asked manifest (slice_set slots 0 (first_opening ∷ [])) cuts told ∙ same cuts new ∙ sym (folded_by asked manifest slots cuts told)
  where
    same : (cuts : List Descriptor) → is_new cuts ≡ true →
        all_told (records_of (slice_set slots 0 (first_opening ∷ [])) cuts) cuts ≡ all_told (records_of slots cuts) cuts
    same [] new = absurd cc
    same (cut ∷ next ∷ cuts) new = absurd cc
    same (cut ∷ []) new =
        let p = and_parts (cut.number == 0) ((cut.slot == 0) && ((cut.first == 0) && is_none cut.sealed)) new in
        let q = and_parts (cut.slot == 0) ((cut.first == 0) && is_none cut.sealed) p.1 in
        let slot : cut.slot ≡ 0 = eqb-true cut.slot 0 q.0 in
        ap (λ n. generation_told (opened cut.slot cut) cut.slot (records_of (slice_set slots 0 (first_opening ∷ [])) (cut ∷ []) n)) slot
        ∙ ap (generation_told (opened cut.slot cut) cut.slot) (new_records slots (cut ∷ []) new within none)
        ∙ ap (λ n. generation_told (opened cut.slot cut) cut.slot (records_of slots (cut ∷ []) n)) (sym slot)

-- a manifest's disk may have the first manifest, or none
pub manifest_is_first : (asked : Asked) (manifest : List (List ℕ)) (slots : List (List (List ℕ))) →
    folded asked (or_first (first_manifest asked) manifest) slots ≡ folded asked manifest slots
unfolding folded
manifest_is_first asked [] slots = refl
manifest_is_first asked (payload ∷ payloads) slots = refl

abbrev nothing : KeptOpening
nothing = record { generation = 0; first = 0; awaited = [] }

pub nothing_held : (asked : Asked) (slots : List (List (List ℕ))) → IsAsked asked → All (λ (records : List (List ℕ)). records ≡ []) slots →
    folded asked [] slots ≡ Holds (opening_list (plain_config asked.config))
nothing_held asked slots is empty =
    folded_by asked [] slots (first_cut asked ∷ []) (first_told asked is)
    ∙ ap (λ (l : List (List ℕ)). generation_told (opened 0 (first_cut asked)) 0 (or_opening true l)) (first_empty slots empty)
    ∙ ap (opened 0 (first_cut asked)) (read_again opening_whole nothing refl)
  where
    first_empty : (slots : List (List (List ℕ))) → All (λ (records : List (List ℕ)). records ≡ []) slots → slice_index_or slots 0 [] ≡ []
    first_empty [] empty = refl
    first_empty (records ∷ slots) empty = empty 0 [] (omega arith)
