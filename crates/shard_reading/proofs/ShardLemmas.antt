-- A whole shard, from its parts.
use Rattle.std.proofs.Common.{◌≡◌, inl, inr, ℕ, zero, suc, ◌+◌, ◌<◌, Bool, true, false, ◌&&◌, ◌==◌, List, [], ◌∷◌, ◌++◌, Vec, Result, Ok, Err, OnOk, length, map, slice_index_or, slice_set, refl, sym, ap, subst, ◌∙◌, arith, length-append, ◌≤◌, eqb-true}
use Rattle.std.specs.Prelude.{IfOk, is_none}
use Rattle.std.specs.declared.alloc.Global.{Global}
use Rattle.std.proofs.lemmas.Bool.{and_parts}
use Rattle.std.proofs.lemmas.List.{length-map}
use Rattle.outside.specs.Along.{keeps_and, keeps_weaker}
use Rattle.outside.specs.DiskModel.{DiskState}
use Rattle.topic_name.specs.declared.descriptor.Descriptor.{Descriptor}
use Rattle.shard_model.specs.ShardList.{ShardList}
use Rattle.shard_index.specs.KeptIndex.{KeptIndex, list_of}
use Rattle.shard_fold.specs.declared.asked.Asked.{Asked}
use Rattle.shard_fold.specs.Fold.{Folded, Holds, all_told, and_then, are_sound_cuts, first_opening, folded, generation_told, is_new, later_all_told, opened, opened_behind, or_opening, records_of}
use Rattle.shard_fold.specs.declared.limits.TheConstants.{MOST_SLOT}
use Rattle.shard_fold.specs.Potential.{potential}
use Rattle.shard_fold.specs.FoldLaws.{folded_by, new_shard, newest_slot}
use Rattle.shard_disks.specs.Calls.{IsRead, Told}
use Rattle.shard_disks.specs.Images.{AllRead, EachMoment, KeepsDisks, WithinAll, faults_of, seen_of}
use Rattle.shard_disks.specs.Lists.{EachHas}
use Rattle.shard_disks.specs.Outline.{IsEither, Outline, Reads, SlotOutline, payloads_of, reads_in, reads_of, slot_at, slot_in}
use Rattle.shard_disks.specs.PlainDisks.{PlainDisks, all_disks, outline}
use Rattle.shard_reading.specs.declared.unread.Unread.{Unread}
use Rattle.shard_reading.specs.Giving.{Gives, IsCause, IsWhy}
use Rattle.shard_reading.specs.Held.{IsOpeningTorn, begins, begins_by, cuts_of, held_in, with_opening}
use Rattle.shard_reading.specs.Reading.{HasSlotBytes, IsIndexOf, ReadsShard}
use Rattle.shard_reading.specs.Steps.{BeginsShard, ReadsCuts, ReadsIndex, begun, records_in}
use Rattle.shard_reading.proofs.BeginLemmas.{third_same, torn_none}
use Rattle.shard_reading.proofs.GenerationLemmas.{newest_known, sound_parts}
use Rattle.shard_reading.proofs.LookLemmas.{blamed_then, keeps_then, told_kept, told_then}
use Rattle.shard_reading.proofs.ManifestLemmas.{then_why}
use Rattle.shard_reading.proofs.RecordLemmas.{outside_is}

-- ---- records of a slot

get_payloads : (slots : List SlotOutline) (n : ℕ) → slice_index_or (map payloads_of slots) n [] ≡ (slot_at slots n).payloads
get_payloads [] n = refl
get_payloads (s ∷ slots) zero = refl
get_payloads (s ∷ slots) (suc n) = get_payloads slots n

some_kept : (new : Bool) (payloads : List (List ℕ)) → 0 < length payloads → or_opening new payloads ≡ payloads
some_kept new [] some = absurd (omega (arith, some))
some_kept true (payload ∷ payloads) some = refl
some_kept false (payload ∷ payloads) some = refl

later_same : (f g : ℕ → List (List ℕ)) → ((n : ℕ) → f n ≡ g n) → (previous : Descriptor) (so_far : Folded ShardList) (cuts : List Descriptor)
    → later_all_told f previous so_far cuts ≡ later_all_told g previous so_far cuts
later_same f g same previous so_far [] = refl
later_same f g same previous so_far (cut ∷ cuts) =
    ap (λ (l : List (List ℕ)). later_all_told f cut (and_then so_far (λ list. generation_told (opened_behind cut.slot list previous.sealed cut) cut.slot l)) cuts) (same cut.slot)
    ∙ later_same f g same cut (and_then so_far (λ list. generation_told (opened_behind cut.slot list previous.sealed cut) cut.slot (g cut.slot))) cuts

all_same : (f g : ℕ → List (List ℕ)) → ((n : ℕ) → f n ≡ g n) → (cuts : List Descriptor) → all_told f cuts ≡ all_told g cuts
all_same f g same [] = refl
all_same f g same (cut ∷ cuts) =
    ap (λ (l : List (List ℕ)). later_all_told f cut (generation_told (opened cut.slot cut) cut.slot l) cuts) (same cut.slot)
    ∙ later_same f g same cut (generation_told (opened cut.slot cut) cut.slot (g cut.slot)) cuts

new_slot : (cut : Descriptor) → is_new (cut ∷ []) ≡ true → cut.slot ≡ 0
new_slot cut new =
    let p = and_parts (cut.number == 0) ((cut.slot == 0) && ((cut.first == 0) && is_none cut.sealed)) new in
    eqb-true cut.slot 0 (and_parts (cut.slot == 0) ((cut.first == 0) && is_none cut.sealed) p.1).0

-- what is held, by the records of the slots, once those of a new shard have their opening
held_is : (asked : Asked) (o : Outline) (cuts : List Descriptor) → cuts_of asked (reads_of o) ≡ Holds cuts → (is_new cuts ≡ true → 0 < length (records_in o 0))
    → held_in asked (reads_of o) ≡ all_told (records_in o) cuts
held_is asked o cuts told some = folded_by asked o.manifest (map payloads_of o.slots) cuts told ∙ by cuts some (is_new cuts) refl
  where
    by : (cuts : List Descriptor) → (is_new cuts ≡ true → 0 < length (records_in o 0)) → (b : Bool) → is_new cuts ≡ b
        → all_told (records_of (map payloads_of o.slots) cuts) cuts ≡ all_told (records_in o) cuts
    by cuts some false e =
        all_same (records_of (map payloads_of o.slots) cuts) (records_in o)
        (λ n. ap (λ b. or_opening b (slice_index_or (map payloads_of o.slots) n [])) e ∙ get_payloads o.slots n) cuts
    by [] some true e = absurd cc
    by (cut ∷ next ∷ cuts) some true e = absurd cc
    by (cut ∷ []) some true e =
        let slot : cut.slot ≡ 0 = new_slot cut e in
        ap (λ n. generation_told (opened cut.slot cut) cut.slot (records_of (map payloads_of o.slots) (cut ∷ []) n)) slot
        ∙ ap (generation_told (opened cut.slot cut) cut.slot)
        (ap (or_opening (is_new (cut ∷ []))) (get_payloads o.slots 0) ∙ some_kept (is_new (cut ∷ [])) (records_in o 0) (some e))
        ∙ ap (λ n. generation_told (opened cut.slot cut) cut.slot (records_in o n)) (sym slot)

-- ---- the opening of a new shard

-- the records hold the same with it
held_begun : (asked : Asked) (reads : Reads) (cuts : List Descriptor) → cuts_of asked reads ≡ Holds cuts → 0 < length reads.slots → (b : Bool)
    → begins_by (Holds cuts) (slice_index_or reads.slots 0 []) ≡ b → held_in asked (begun b reads) ≡ held_in asked reads
held_begun asked reads cuts told some false e = refl
held_begun asked reads cuts told some true e = by (slice_index_or reads.slots 0 []) refl
  where
    by : (l : List (List ℕ)) → slice_index_or reads.slots 0 [] ≡ l → held_in asked (begun true reads) ≡ held_in asked reads
    by [] none =
        let new : is_new cuts ≡ true = sym (ap (begins_by (Holds cuts)) none) ∙ e in
        ap (λ l. folded asked reads.manifest (slice_set reads.slots 0 (l ++ first_opening ∷ []))) none ∙ new_shard asked reads.manifest reads.slots cuts told new some none
    by (p ∷ l) is = let f : false ≡ true = sym (ap (begins_by (Holds cuts)) is) ∙ e in absurd cc

begun_cuts : (asked : Asked) (reads : Reads) (b : Bool) → cuts_of asked (begun b reads) ≡ cuts_of asked reads
begun_cuts asked reads true = refl
begun_cuts asked reads false = refl

-- and the first slot has a record then
begun_some : (reads : Reads) (cuts : List Descriptor) (b : Bool) → begins_by (Holds cuts) (slice_index_or reads.slots 0 []) ≡ b → 0 < length reads.slots → is_new cuts ≡ true
    → 0 < length (slice_index_or (begun b reads).slots 0 [])
begun_some reads cuts true e some new = by reads.slots some
  where
    by : (slots : List (List (List ℕ))) → 0 < length slots → 0 < length (slice_index_or (slice_set slots 0 (slice_index_or slots 0 [] ++ first_opening ∷ [])) 0 [])
    by [] some = absurd (omega (arith, some))
    by (s ∷ slots) some = omega (arith, length-append s (first_opening ∷ []))
begun_some reads cuts false e some new = by (slice_index_or reads.slots 0 []) e
  where
    by : (l : List (List ℕ)) → begins_by (Holds cuts) l ≡ false → 0 < length l
    by [] f = let g : true ≡ false = sym new ∙ f in absurd cc
    by (p ∷ l) f = omega arith

-- ---- what stays, whatever comes of the reading

torn_same : (b : Bool) (bytes : List (List ℕ)) → IsOpeningTorn b bytes bytes
torn_same true bytes = (third_same bytes, torn_none (slice_index_or bytes 2 []))
torn_same false bytes = refl

on_ok : {T E P : Type 0} (result : Result T E) → P → OnOk result P
on_ok (Ok x) p = p
on_ok (Err e) p = tt

record Stays {D : Type 0} (state : D → DiskState) (asked : Asked) (old new : PlainDisks D) : Type 0 where
  same : Told state old → held_in asked (reads_of (outline new)) ≡ held_in asked (reads_of (outline old))
  eight : length (outline new).slots ≡ 8
  limits : EachHas HasSlotBytes (outline new).slots
  side : (outline new).side ≡ (outline old).side
  torn : Told state old → IsOpeningTorn (begins asked (reads_of (outline old))) (seen_of state (all_disks old)) (seen_of state (all_disks new))
  any_moment : EachMoment state old new (λ reads. held_in asked reads ≡ held_in asked (reads_of (outline old)))
  holds : Told state old → AllRead state (all_disks new) (λ reads. held_in asked reads ≡ held_in asked (reads_of (outline old)))
  disks : KeepsDisks state (all_disks old) (all_disks new)

read_stays : {D : Type 0} (state : D → DiskState) (asked : Asked) (old new : PlainDisks D) → length (outline old).slots ≡ 8 → EachHas HasSlotBytes (outline old).slots
    → IsRead state old new → Stays state asked old new
read_stays state asked old new eight limits read = record {
  same = λ told. ap (λ (o : Outline). held_in asked (reads_of o)) read.stays;
  eight = ap (λ (o : Outline). length o.slots) read.stays ∙ eight;
  limits = subst (λ (o : Outline). EachHas HasSlotBytes o.slots) (sym read.stays) limits;
  side = ap (λ (o : Outline). o.side) read.stays;
  torn = λ told. subst (IsOpeningTorn (begins asked (reads_of (outline old))) (seen_of state (all_disks old))) (sym read.seen)
      (torn_same (begins asked (reads_of (outline old))) (seen_of state (all_disks old)));
  any_moment = λ told. keeps_weaker (WithinAll state) (λ images. reads_in images ≡ reads_of (outline old)) (λ images. held_in asked (reads_in images) ≡ held_in asked (reads_of (outline old)))
      old.past (all_disks old) new.past (all_disks new) (λ images e. ap (held_in asked) e) (read.any_moment told);
  holds = λ told images left. ap (held_in asked) (read.images told images left ∙ ap reads_of read.stays);
  disks = read.disks;
}

stays_read : {D : Type 0} (state : D → DiskState) (asked : Asked) (old mid new : PlainDisks D) → Stays state asked old mid → IsRead state mid new → Stays state asked old new
stays_read state asked old mid new was read = record {
  same = λ told. ap (λ (o : Outline). held_in asked (reads_of o)) read.stays ∙ was.same told;
  eight = ap (λ (o : Outline). length o.slots) read.stays ∙ was.eight;
  limits = subst (λ (o : Outline). EachHas HasSlotBytes o.slots) (sym read.stays) was.limits;
  side = ap (λ (o : Outline). o.side) read.stays ∙ was.side;
  torn = λ told. subst (IsOpeningTorn (begins asked (reads_of (outline old))) (seen_of state (all_disks old))) (sym read.seen) (was.torn told);
  any_moment = λ told. keeps_and (WithinAll state) (λ images. held_in asked (reads_in images) ≡ held_in asked (reads_of (outline old)))
      old.past (all_disks old) mid.past (all_disks mid) new.past (all_disks new) (was.any_moment told)
      (keeps_weaker (WithinAll state) (λ images. reads_in images ≡ reads_of (outline mid)) (λ images. held_in asked (reads_in images) ≡ held_in asked (reads_of (outline old)))
      mid.past (all_disks mid) new.past (all_disks new) (λ images e. ap (held_in asked) e ∙ was.same told) (read.any_moment (told_kept state old mid was.disks told)));
  holds = λ told images left. ap (held_in asked) (read.images (told_kept state old mid was.disks told) images left ∙ ap reads_of read.stays) ∙ was.same told;
  disks = keeps_then state (all_disks old) (all_disks mid) (all_disks new) was.disks read.disks;
}

-- ---- the manifest was read, and the opening written where it is to be

module _ {D : Type 0} (state : D → DiskState) (asked : Asked) (old mid : PlainDisks D) (cuts : Vec Descriptor Global) (read : ReadsCuts state asked old mid (Ok cuts))
    (eight : length (outline old).slots ≡ 8) where
  told_mid : Told state old → Told state mid
  told_mid told = told_then state old mid read.looks.read told

  -- whether it is to be written
  abbrev new_one : Bool
  new_one = begins_by (Holds cuts.items) (records_in (outline mid) 0)

  same_reads : reads_of (outline mid) ≡ reads_of (outline old)
  same_reads = ap reads_of read.looks.read.stays

  mid_cuts : Told state old → cuts_of asked (reads_of (outline mid)) ≡ Holds cuts.items
  mid_cuts told = ap (cuts_of asked) same_reads ∙ read.exact told

  mid_some : 0 < length (reads_of (outline mid)).slots
  mid_some = let e : length (reads_of (outline mid)).slots ≡ length (outline mid).slots = length-map (outline mid).slots payloads_of in
      let f : length (outline mid).slots ≡ 8 = ap (λ (o : Outline). length o.slots) read.looks.read.stays ∙ eight in omega arith

  mid_new : begins_by (Holds cuts.items) (slice_index_or (reads_of (outline mid)).slots 0 []) ≡ new_one
  mid_new = ap (begins_by (Holds cuts.items)) (get_payloads (outline mid).slots 0)

  new_is : Told state old → begins asked (reads_of (outline old)) ≡ new_one
  new_is told =
      ap (λ r. begins_by r (slice_index_or (reads_of (outline old)).slots 0 [])) (read.exact told)
      ∙ ap (λ (r : Reads). begins_by (Holds cuts.items) (slice_index_or r.slots 0 [])) (sym same_reads) ∙ mid_new

  held_mid : Told state old → held_in asked (begun new_one (reads_of (outline mid))) ≡ held_in asked (reads_of (outline old))
  held_mid told = held_begun asked (reads_of (outline mid)) cuts.items (mid_cuts told) mid_some new_one mid_new ∙ ap (held_in asked) same_reads

  held_either : Told state old → (reads : Reads) → IsEither (reads_of (outline mid)) (begun new_one (reads_of (outline mid))) reads → held_in asked reads ≡ held_in asked (reads_of (outline old))
  held_either told reads (inl e) = ap (held_in asked) (e ∙ same_reads)
  held_either told reads (inr e) = ap (held_in asked) e ∙ held_mid told

  begun_held : (new : PlainDisks D) (result : Result Unit Unread) → BeginsShard state new_one mid new result → Told state old → held_in asked (reads_of (outline new)) ≡ held_in asked (reads_of (outline old))
  begun_held new (Ok u) begins told = held_either told (reads_of (outline new)) (inr (begins.reads (told_mid told)))
  begun_held new (Err why) begins told = held_either told (reads_of (outline new)) (inl (begins.kept (told_mid told)))

  begun_stays : (new : PlainDisks D) (result : Result Unit Unread) → BeginsShard state new_one mid new result → Stays state asked old new
  begun_stays new result begins = record {
    same = begun_held new result begins;
    eight = begins.eight;
    limits = begins.limits;
    side = begins.side ∙ ap (λ (o : Outline). o.side) read.looks.read.stays;
    torn = λ told. subst (λ b. IsOpeningTorn b (seen_of state (all_disks old)) (seen_of state (all_disks new))) (sym (new_is told))
        (subst (λ l. IsOpeningTorn new_one l (seen_of state (all_disks new))) read.looks.read.seen (begins.torn (told_mid told)));
    any_moment = λ told. keeps_and (WithinAll state) (λ images. held_in asked (reads_in images) ≡ held_in asked (reads_of (outline old)))
        old.past (all_disks old) mid.past (all_disks mid) new.past (all_disks new)
        (keeps_weaker (WithinAll state) (λ images. reads_in images ≡ reads_of (outline old)) (λ images. held_in asked (reads_in images) ≡ held_in asked (reads_of (outline old)))
        old.past (all_disks old) mid.past (all_disks mid) (λ images e. ap (held_in asked) e) (read.looks.read.any_moment told))
        (keeps_weaker (WithinAll state) (λ images. IsEither (reads_of (outline mid)) (begun new_one (reads_of (outline mid))) (reads_in images))
        (λ images. held_in asked (reads_in images) ≡ held_in asked (reads_of (outline old)))
        mid.past (all_disks mid) new.past (all_disks new) (λ images either. held_either told (reads_in images) either) (begins.any_moment (told_mid told)));
    holds = λ told images left. held_either told (reads_in images) (begins.images_either (told_mid told) images left);
    disks = keeps_then state (all_disks old) (all_disks mid) (all_disks new) read.looks.read.disks begins.disks;
  }

  -- it was not written
  pub begin_refused : (new : PlainDisks D) (why : Unread) → BeginsShard state new_one mid new (Err why) → ReadsShard state asked old new (Err why)
  begin_refused new why begins =
      let stays = begun_stays new (Err why) begins in
      record {
        exact = λ told. outside_is why (held_in asked (reads_of (outline old))) (begins.told (told_mid told));
        same = stays.same;
        index = tt;
        rests = tt;
        eight = stays.eight;
        limits = stays.limits;
        side = stays.side;
        bytes = tt;
        torn = stays.torn;
        any_moment = stays.any_moment;
        images = tt;
        holds = stays.holds;
        disks = stays.disks;
        cause = subst (λ l. IsCause why l (faults_of state (all_disks new))) read.looks.cause begins.cause;
      }

  -- it is there, and the slots were read
  module _ (third new : PlainDisks D) (begun_so : BeginsShard state new_one mid third (Ok tt)) (sound : are_sound_cuts cuts.items ≡ true) where
    stays_third : Stays state asked old third
    stays_third = begun_stays third (Ok tt) begun_so

    third_reads : Told state old → reads_of (outline third) ≡ begun new_one (reads_of (outline mid))
    third_reads told = begun_so.reads (told_mid told)

    third_cuts : Told state old → cuts_of asked (reads_of (outline third)) ≡ Holds cuts.items
    third_cuts told = ap (cuts_of asked) (third_reads told) ∙ begun_cuts asked (reads_of (outline mid)) new_one ∙ mid_cuts told

    third_some : Told state old → is_new cuts.items ≡ true → 0 < length (records_in (outline third) 0)
    third_some told new =
        subst (λ (l : List (List ℕ)). 0 < length l) (get_payloads (outline third).slots 0)
        (subst (λ (r : Reads). 0 < length (slice_index_or r.slots 0 [])) (sym (third_reads told)) (begun_some (reads_of (outline mid)) cuts.items new_one mid_new mid_some new))

    held_third : Told state old → all_told (records_in (outline third)) cuts.items ≡ held_in asked (reads_of (outline old))
    held_third told = sym (held_is asked (outline third) cuts.items (third_cuts told) (third_some told)) ∙ stays_third.same told

    told_third : Told state old → Told state third
    told_third told = told_kept state old third stays_third.disks told

    told_back : IsRead state third new → Told state new → Told state old
    told_back seen told =
        told_kept state new old (record { tells = sym (seen.disks.tells ∙ stays_third.disks.tells); arms = sym (seen.disks.arms ∙ stays_third.disks.arms) }) told

    index_of : (result : Result KeptIndex Unread) → ReadsIndex state cuts.items third new result → IfOk result (IsIndexOf state asked new)
    index_of (Ok index) reads =
        let same : outline new ≡ outline third = reads.looks.read.stays in
        let newest : newest_slot index.cuts ≡ newest_slot cuts.items = ap newest_slot reads.same_cuts in
        record {
          cuts = λ told.
              ap (λ (o : Outline). cuts_of asked (reads_of o)) same ∙ third_cuts (told_back reads.looks.read told) ∙ ap (λ (l : List Descriptor). Holds l) (sym reads.same_cuts);
          within = subst (λ n. n < 8) (sym newest) (newest_known cuts.items (sound_parts cuts.items sound).0);
          some = λ told. subst (λ n. 0 < length (records_in (outline new) n)) (sym newest) (subst (λ (o : Outline). 0 < length (records_in o (newest_slot cuts.items))) (sym same) reads.some);
          room = subst (λ n. (slot_in (outline new) n).end + potential (list_of index) ≤ MOST_SLOT) (sym newest)
              (subst (λ (o : Outline). (slot_in o (newest_slot cuts.items)).end + potential (list_of index) ≤ MOST_SLOT) (sym same) reads.room);
        }
    index_of (Err why) reads = tt

    pub shard_read : (result : Result KeptIndex Unread) → ReadsIndex state cuts.items third new result → ReadsShard state asked old new result
    shard_read result reads =
        let stays = stays_read state asked old third new stays_third reads.looks.read in
        record {
          exact = λ told. subst (Gives list_of result) (held_third told) (reads.exact (told_third told));
          same = stays.same;
          index = index_of result reads;
          rests = on_ok result (ap (λ (o : Outline). o.doubted) reads.looks.read.stays ∙ begun_so.rests);
          eight = stays.eight;
          limits = stays.limits;
          side = stays.side;
          bytes = on_ok result (λ told. reads.looks.read.seen ∙ begun_so.bytes (told_mid told) ∙ ap (with_opening new_one) read.looks.read.seen
              ∙ ap (λ b. with_opening b (seen_of state (all_disks old))) (sym (new_is told)));
          torn = stays.torn;
          any_moment = stays.any_moment;
          images = on_ok result (λ told. reads.looks.read.images (told_third told));
          holds = stays.holds;
          disks = stays.disks;
          cause = blamed_then (faults_of state (all_disks old)) (faults_of state (all_disks third)) (faults_of state (all_disks new)) result
              (begun_so.cause ∙ read.looks.cause) reads.looks.cause;
        }

-- ---- the manifest was not read

-- why the generations aren't told is why nothing is held
held_why : (asked : Asked) (reads : Reads) (why : Unread) → IsWhy why (cuts_of asked reads) → IsWhy why (held_in asked reads)
unfolding folded
held_why asked reads why e = then_why why (cuts_of asked reads) (λ cuts. all_told (records_of reads.slots cuts) cuts) e

pub cuts_unread : {D : Type 0} (state : D → DiskState) (asked : Asked) (old new : PlainDisks D) (why : Unread) → length (outline old).slots ≡ 8 → EachHas HasSlotBytes (outline old).slots
    → ReadsCuts state asked old new (Err why) → ReadsShard state asked old new (Err why)
cuts_unread state asked old new why eight limits reads =
    let stays = read_stays state asked old new eight limits reads.looks.read in
    record {
      exact = λ told. held_why asked (reads_of (outline old)) why (reads.exact told);
      same = stays.same;
      index = tt;
      rests = tt;
      eight = stays.eight;
      limits = stays.limits;
      side = stays.side;
      bytes = tt;
      torn = stays.torn;
      any_moment = stays.any_moment;
      images = tt;
      holds = stays.holds;
      disks = stays.disks;
      cause = reads.looks.cause;
    }
