-- A record is written, and room is made for it.
use Rattle.std.proofs.Common.{◌≡◌, ℕ, ◌+◌, ◌<◌, ◌≤◌, IsTrue, Result, Ok, Err, Some, None, List, [], ◌∷◌, ◌++◌, length, map, slice_index_or, refl, sym, ap, subst, ◌∙◌, length-append, arith}
use Rattle.std.proofs.Math.ListN.{get_or-map}
use Rattle.std.proofs.Math.Seq.{map-set_same}
use Rattle.std.proofs.lemmas.List.{get_or-set_same, length-map}
use Rattle.outside.specs.DiskModel.{DiskState}
use Rattle.gated_log.specs.PlainLog.{AtRest, InDoubt}
use Rattle.gated_log.specs.declared.refused.LogRefused.{LogRefused}
use Rattle.gated_log.specs.declared.refused.LogRefused.TheVariants.{Fault as Failed}
use Rattle.shard_model.specs.ShardList.{ShardList}
use Rattle.shard_index.specs.declared.op.IndexOp.{IndexOp}
use Rattle.shard_index.specs.declared.refused.AppendRefused.TheVariants.{Fault}
use Rattle.shard_index.specs.KeptIndex.{KeptIndex, list_of}
use Rattle.shard_index.specs.Absorbing.{absorbed_all}
use Rattle.shard_fold.specs.declared.asked.Asked.{Asked}
use Rattle.shard_fold.specs.declared.limits.TheConstants.{MOST_SLOT}
use Rattle.shard_fold.specs.Fold.{Holds}
use Rattle.shard_fold.specs.FoldLaws.{newest_slot, record_behind}
use Rattle.shard_fold.specs.Potential.{potential}
use Rattle.shard_disks.specs.Calls.{CommitsTo, HasCommitted, IsLeftInDoubt, IsTornTo, Told}
use Rattle.shard_disks.specs.Images.{tell_all}
use Rattle.shard_disks.specs.Lists.{EachHas}
use Rattle.shard_disks.specs.Outline.{IsEither, Outline, Reads, SlotOutline, no_slot, payloads_after, payloads_of, reads_after, reads_of, slot_in, with_record, with_slot}
use Rattle.shard_disks.specs.PlainDisks.{PlainDisks, all_disks, outline}
use Rattle.shard_disks.specs.Stands.{SlotsStand}
use Rattle.shard_reading.specs.Held.{HoldsEither, HoldsOne, cuts_of, held_in}
use Rattle.shard_reading.specs.Reading.{HasSlotBytes}
use Rattle.shard_log.specs.Parts.{IsPart}
use Rattle.shard_log.specs.PlainShardLog.{IsDoubtOf, IsShardLog, IsSound, IsTold, PlainShardLog, end_after, end_with, known_by, own_slot, shown}
use Rattle.shard_log.specs.Appending.{IsShown}
use Rattle.shard_log.specs.Steps.{IsToStore, Writes}
use Rattle.shard_log.proofs.ListLemmas.{each_at, each_set}
use Rattle.shard_log.proofs.PartLemmas.{blamed_by, either_holds, moments_weaker, ok_none, tell_kept}
use Rattle.shard_log.proofs.SettleLemmas.{known_same, sum_as}

less_behind : (end long after before most : ℕ) → 5 + long + after ≤ before → end + before ≤ most → end + (5 + long) + after ≤ most
less_behind end long after before most room fits = omega arith

one_more : (payloads : List (List ℕ)) (payload : List ℕ) → 0 < length (payloads ++ payload ∷ [])
one_more payloads payload = let long = length-append payloads (payload ∷ []) in omega arith

-- ---- outlines

module _ (o n : Outline) (index : KeptIndex) (is : IsSound o index []) (eight : length o.slots ≡ 8) where
  abbrev k : ℕ
  k = newest_slot index.cuts

  abbrev list : ShardList
  list = list_of index

  inside : k < length o.slots
  inside = let w = is.within in omega arith

  pub own_limit : HasSlotBytes (slot_in o k)
  own_limit = each_at HasSlotBytes o.slots k no_slot is.limits inside

  -- room for what the generation can still take
  pub own_room : (slot_in o k).end + potential list ≤ MOST_SLOT
  own_room = subst (λ (l : ShardList). (slot_in o k).end + potential l ≤ MOST_SLOT) (known_same o.doubted list) is.room

  module _ (none : o.doubted ≡ None) (stand : SlotsStand o.doubted o.slots) (draft : List ℕ) (ops : List IndexOp) (to : IsToStore list draft ops) where
    abbrev after : ShardList
    after = absorbed_all ops list

    rests : (slot_in o k).standing ≡ AtRest
    rests = each_at (λ (slot : SlotOutline). slot.standing ≡ AtRest) o.slots k no_slot (subst (λ d. SlotsStand d o.slots) none stand) inside

    behind : (slot_in o k).end + (5 + length draft) + potential after ≤ MOST_SLOT
    behind = less_behind (slot_in o k).end (length draft) (potential after) (potential list) MOST_SLOT to.room own_room

    pub sound_written : HasCommitted k draft o n → IsSound n index ops
    sound_written has =
        let here : slot_in n k ≡ record (slot_in o k) {
          payloads = (slot_in n k).payloads;
          end = (slot_in o k).end + (5 + length draft);
          spare = (slot_in n k).spare;
        } = ap (λ (m : Outline). slot_in m k) has ∙ get_or-set_same o.slots k (record (slot_in o k) {
          payloads = (slot_in n k).payloads;
          end = (slot_in o k).end + (5 + length draft);
          spare = (slot_in n k).spare;
        }) no_slot inside in
        let none_now : n.doubted ≡ None = ap (λ (m : Outline). m.doubted) has ∙ none in
        let end : (slot_in n k).end ≡ (slot_in o k).end + (5 + length draft) = ap (λ (s : SlotOutline). s.end) here in
        let standing : (slot_in n k).standing ≡ AtRest = ap (λ (s : SlotOutline). s.standing) here ∙ rests in
        record {
          limits = subst (λ (m : Outline). EachHas HasSlotBytes m.slots) (sym has) (each_set HasSlotBytes o.slots k _ is.limits own_limit);
          within = is.within;
          doubted = subst (IsDoubtOf k) (sym none_now) tt;
          group = to.group;
          stand = to.stand;
          room = sum_as (slot_in n k).end ((slot_in o k).end + (5 + length draft)) (potential (known_by n.doubted list after)) (potential after) MOST_SLOT end
              (ap (λ d. potential (known_by d list after)) none_now) behind;
          room_after = sum_as (end_after (slot_in n k)) ((slot_in o k).end + (5 + length draft)) (potential after) (potential after) MOST_SLOT
              (ap (λ s. end_with s (slot_in n k).end) standing ∙ end) refl behind;
        }

    pub sound_in_doubt : IsLeftInDoubt k draft o n → IsSound n index ops
    sound_in_doubt has =
        let here : slot_in n k ≡ record (slot_in o k) { payloads = (slot_in n k).payloads; standing = InDoubt draft } =
        ap (λ (m : Outline). slot_in m k) has ∙ get_or-set_same o.slots k (record (slot_in o k) { payloads = (slot_in n k).payloads; standing = InDoubt draft }) no_slot inside in
        let some : n.doubted ≡ Some k = ap (λ (m : Outline). m.doubted) has in
        let end : (slot_in n k).end ≡ (slot_in o k).end = ap (λ (s : SlotOutline). s.end) here in
        let standing : (slot_in n k).standing ≡ InDoubt draft = ap (λ (s : SlotOutline). s.standing) here in
        record {
          limits = subst (λ (m : Outline). EachHas HasSlotBytes m.slots) (sym has) (each_set HasSlotBytes o.slots k _ is.limits own_limit);
          within = is.within;
          doubted = subst (IsDoubtOf k) (sym some) refl;
          group = to.group;
          stand = to.stand;
          room = sum_as (slot_in n k).end (slot_in o k).end (potential (known_by n.doubted list after)) (potential list) MOST_SLOT end
              (ap (λ d. potential (known_by d list after)) some) own_room;
          room_after = sum_as (end_after (slot_in n k)) ((slot_in o k).end + (5 + length draft)) (potential after) (potential after) MOST_SLOT
              (ap (λ s. end_with s (slot_in n k).end) standing ∙ ap (λ e. e + (5 + length draft)) end) refl behind;
        }

    -- where the disks tell
    module _ (asked : Asked) (told : IsTold asked o index (known_by o.doubted list list) list) where
      pub held_before : HoldsOne asked list (reads_of o)
      held_before = told.now ∙ ap Holds (known_same o.doubted list)

      pub held_behind : HoldsOne asked after (with_record k draft (reads_of o))
      held_behind =
          let slots : List (List (List ℕ)) = map payloads_of o.slots in
          let here : slice_index_or slots k [] ≡ (slot_in o k).payloads = get_or-map payloads_of o.slots k no_slot in
          let within : k < length slots = subst (λ n. k < n) (sym (length-map o.slots payloads_of)) inside in
          record_behind asked o.manifest slots list index.cuts k draft held_before told.cuts refl within (subst (λ (l : List (List ℕ)). 0 < length l) (sym here) told.some)
          ∙ to.taken k _

      pub told_written : HasCommitted k draft o n → reads_of n ≡ with_record k draft (reads_of o) → reads_after n ≡ reads_of n → IsTold asked n index (known_by n.doubted list after) after
      told_written has reads rests_now =
          let none_now : n.doubted ≡ None = ap (λ (m : Outline). m.doubted) has ∙ none in
          let slots : List (List (List ℕ)) = map payloads_of o.slots in
          let within : k < length slots = subst (λ n. k < n) (sym (length-map o.slots payloads_of)) inside in
          let here : (slot_in n k).payloads ≡ slice_index_or slots k [] ++ draft ∷ [] =
          sym (get_or-map payloads_of n.slots k no_slot)
          ∙ (ap (λ (r : Reads). slice_index_or r.slots k []) reads ∙ get_or-set_same slots k (slice_index_or slots k [] ++ draft ∷ []) [] within) in
          record {
            cuts = ap (cuts_of asked) reads ∙ told.cuts;
            some = subst (λ (l : List (List ℕ)). 0 < length l) (sym here) (one_more (slice_index_or slots k []) draft);
            now = ap (held_in asked) reads ∙ (held_behind ∙ sym (ap (λ d. Holds (known_by d list after)) none_now));
            after = ap (held_in asked) (rests_now ∙ reads) ∙ held_behind;
          }

      pub told_in_doubt : IsLeftInDoubt k draft o n → reads_of n ≡ reads_of o → reads_after n ≡ with_record k draft (reads_of o) → IsTold asked n index (known_by n.doubted list after) after
      told_in_doubt has reads reads_then =
          let some : n.doubted ≡ Some k = ap (λ (m : Outline). m.doubted) has in
          let here : (slot_in n k).payloads ≡ (slot_in o k).payloads =
          sym (get_or-map payloads_of n.slots k no_slot) ∙ (ap (λ (r : Reads). slice_index_or r.slots k []) reads ∙ get_or-map payloads_of o.slots k no_slot) in
          record {
            cuts = ap (cuts_of asked) reads ∙ told.cuts;
            some = subst (λ (l : List (List ℕ)). 0 < length l) (sym here) told.some;
            now = ap (held_in asked) reads ∙ (held_before ∙ sym (ap (λ d. Holds (known_by d list after)) some));
            after = ap (held_in asked) reads_then ∙ held_behind;
          }

-- more room alone
module _ (o n : Outline) (index : KeptIndex) (unshown : List IndexOp) (is : IsSound o index unshown) (eight : length o.slots ≡ 8) (spare : ℕ)
    (roomier : n ≡ with_slot (newest_slot index.cuts) (record (slot_in o (newest_slot index.cuts)) { spare = spare }) o) where
  abbrev roomy : SlotOutline
  roomy = record (slot_in o (newest_slot index.cuts)) { spare = spare }

  slot_now : slot_in n (newest_slot index.cuts) ≡ roomy
  slot_now = ap (λ (m : Outline). slot_in m (newest_slot index.cuts)) roomier ∙ get_or-set_same o.slots (newest_slot index.cuts) roomy no_slot (let w = is.within in omega arith)

  abbrev own_list : ShardList
  own_list = list_of index

  abbrev own_later : ShardList
  own_later = absorbed_all unshown (list_of index)

  pub sound_roomier : IsSound n index unshown
  sound_roomier =
      let doubted : n.doubted ≡ o.doubted = ap (λ (m : Outline). m.doubted) roomier in
      let end : (slot_in n (newest_slot index.cuts)).end ≡ (slot_in o (newest_slot index.cuts)).end = ap (λ (s : SlotOutline). s.end) slot_now in
      let both : end_after (slot_in n (newest_slot index.cuts)) ≡ end_after (slot_in o (newest_slot index.cuts)) = ap (λ (s : SlotOutline). end_after s) slot_now in
      record {
        limits = subst (λ (m : Outline). EachHas HasSlotBytes m.slots) (sym roomier)
            (each_set HasSlotBytes o.slots (newest_slot index.cuts) roomy is.limits (each_at HasSlotBytes o.slots (newest_slot index.cuts) no_slot is.limits (let w = is.within in omega arith)));
        within = is.within;
        doubted = subst (IsDoubtOf (newest_slot index.cuts)) (sym doubted) is.doubted;
        group = is.group;
        stand = is.stand;
        room = sum_as (slot_in n (newest_slot index.cuts)).end (slot_in o (newest_slot index.cuts)).end (potential (known_by n.doubted own_list own_later)) (potential (known_by o.doubted own_list own_later)) MOST_SLOT end
            (ap (λ d. potential (known_by d own_list own_later)) doubted) is.room;
        room_after = sum_as (end_after (slot_in n (newest_slot index.cuts))) (end_after (slot_in o (newest_slot index.cuts))) (potential own_later) (potential own_later) MOST_SLOT both refl is.room_after;
      }

  pub reads_roomier : reads_of n ≡ reads_of o
  reads_roomier = ap reads_of roomier
      ∙ ap (λ (l : List (List (List ℕ))). record { manifest = o.manifest; slots = l }) (map-set_same payloads_of o.slots (newest_slot index.cuts) roomy no_slot refl)

  pub after_roomier : reads_after n ≡ reads_after o
  after_roomier = ap reads_after roomier
      ∙ ap (λ (l : List (List (List ℕ))). record { manifest = o.manifest; slots = l }) (map-set_same payloads_after o.slots (newest_slot index.cuts) roomy no_slot refl)

  pub told_roomier : (asked : Asked) → IsTold asked o index (known_by o.doubted own_list own_later) own_later → IsTold asked n index (known_by n.doubted own_list own_later) own_later
  told_roomier asked told =
      let doubted : n.doubted ≡ o.doubted = ap (λ (m : Outline). m.doubted) roomier in
      record {
        cuts = ap (cuts_of asked) reads_roomier ∙ told.cuts;
        some = subst (λ (s : SlotOutline). 0 < length s.payloads) (sym slot_now) told.some;
        now = ap (held_in asked) reads_roomier ∙ (told.now ∙ sym (ap (λ d. Holds (known_by d own_list own_later)) doubted));
        after = ap (held_in asked) after_roomier ∙ told.after;
      }

-- ---- the shard

pub kept_roomier : {D : Type 0} (state : D → DiskState) (old : PlainShardLog D) (d : PlainDisks D) → IsShardLog state old → length (outline old.disks).slots ≡ 8 →
    outline d ≡ with_slot (own_slot old) (record (slot_in (outline old.disks) (own_slot old)) { spare = (slot_in (outline d) (own_slot old)).spare }) (outline old.disks) →
    all_disks d ≡ all_disks old.disks → IsShardLog state (record old { disks = d })
kept_roomier state old d is eight roomier same = record {
  asked = is.asked;
  sound = sound_roomier (outline old.disks) (outline d) old.index old.unshown is.sound eight _ roomier;
  told = λ told. told_roomier (outline old.disks) (outline d) old.index old.unshown is.sound eight _ roomier old.asked
      (is.told (subst (λ ds. IsTrue (tell_all state ds)) same told));
}

module _ {D : Type 0} (state : D → DiskState) (old : PlainShardLog D) (is : IsShardLog state old) (rests : IsShown old) (eight : length (outline old.disks).slots ≡ 8)
    (stand : SlotsStand old.disks.doubted (outline old.disks).slots) (draft : List ℕ) (ops : List IndexOp) (to : IsToStore (shown old) draft ops) (d : PlainDisks D) where
  own_sound : IsSound (outline old.disks) old.index []
  own_sound = subst (IsSound (outline old.disks) old.index) rests.none is.sound

  own_told : Told state old.disks → IsTold old.asked (outline old.disks) old.index (known_by old.disks.doubted (shown old) (shown old)) (shown old)
  own_told told = subst (λ (u : List IndexOp). IsTold old.asked (outline old.disks) old.index (known_by old.disks.doubted (shown old) (absorbed_all u (shown old))) (absorbed_all u (shown old))) rests.none (is.told told)

  pub fits_written : (slot_in (outline old.disks) (own_slot old)).end + (6 + length draft) ≤ (slot_in (outline old.disks) (own_slot old)).limit
  fits_written =
      let limit = own_limit (outline old.disks) (outline d) old.index own_sound eight in
      let room = own_room (outline old.disks) (outline d) old.index own_sound eight in
      by (slot_in (outline old.disks) (own_slot old)).end (slot_in (outline old.disks) (own_slot old)).limit (potential (shown old)) (potential (absorbed_all ops (shown old))) room to.room limit
    where
      by : (end limit before after : ℕ) → end + before ≤ MOST_SLOT → 5 + length draft + after ≤ before → limit ≡ 4294967296 → end + (6 + length draft) ≤ limit
      by end limit before after fits room is = omega arith

  module _ (result : Result Unit LogRefused) (commits : CommitsTo state (own_slot old) draft old.disks d result)
      (torn : Told state old.disks → IsTornTo state (own_slot old) draft old.disks d) where
    abbrev new : PlainShardLog D
    new = record old { disks = d; unshown = ops }

    part : IsPart state (HoldsEither old.asked (shown old) (absorbed_all ops (shown old))) old new
    part = record {
      asked = refl;
      cuts = refl;
      disks = commits.disks;
      elsewhere = λ told. (torn told).0;
      any_moment = λ told.
          moments_weaker state (IsEither (reads_of (outline old.disks)) (with_record (own_slot old) draft (reads_of (outline old.disks)))) (HoldsEither old.asked (shown old) (absorbed_all ops (shown old))) old.disks d
          (λ reads. either_holds old.asked (shown old) (absorbed_all ops (shown old)) (reads_of (outline old.disks)) (with_record (own_slot old) draft (reads_of (outline old.disks))) reads
          (held_before (outline old.disks) (outline d) old.index own_sound eight rests.rests stand draft ops to old.asked (own_told told))
          (held_behind (outline old.disks) (outline d) old.index own_sound eight rests.rests stand draft ops to old.asked (own_told told)))
          commits.any_moment told;
    }

    told_back : Told state d → Told state old.disks
    told_back told = tell_kept state (all_disks d) (all_disks old.disks) (sym commits.disks.tells) told

  pub write_ok : CommitsTo state (own_slot old) draft old.disks d (Ok tt) → (Told state old.disks → IsTornTo state (own_slot old) draft old.disks d) → Writes state draft ops old (record old { disks = d; unshown = ops }) (Ok tt)
  write_ok commits torn = record {
    stays = refl;
    rests = ap (λ (o : Outline). o.doubted) commits.stays ∙ rests.rests;
    in_doubt = tt;
    only_fault = tt;
    list = commits.list;
    part = part (Ok tt) commits torn;
    cause = blamed_by _ _ (Ok tt) (Ok tt) commits.cause (λ fault. absurd (ok_none tt Fault fault)) (λ fault. absurd (ok_none tt Failed fault));
  }

  pub write_err : (why : LogRefused) → CommitsTo state (own_slot old) draft old.disks d (Err why) → (Told state old.disks → IsTornTo state (own_slot old) draft old.disks d) →
      Writes state draft ops old (record old { disks = d; unshown = ops }) (Err Fault)
  write_err why commits torn = record {
    stays = refl;
    rests = tt;
    in_doubt = ap (λ (o : Outline). o.doubted) commits.in_doubt;
    only_fault = refl;
    list = tt;
    part = part (Err why) commits torn;
    cause = blamed_by _ _ (Err why) (Err Fault) commits.cause (λ fault. commits.only_fault) (λ fault. refl);
  }

  pub kept_written : CommitsTo state (own_slot old) draft old.disks d (Ok tt) → (Told state old.disks → IsTornTo state (own_slot old) draft old.disks d) → reads_after (outline d) ≡ reads_of (outline d) →
      IsShardLog state (record old { disks = d; unshown = ops })
  kept_written commits torn rests_now = record {
    asked = is.asked;
    sound = sound_written (outline old.disks) (outline d) old.index own_sound eight rests.rests stand draft ops to commits.stays;
    told = λ told.
        let before = told_back (Ok tt) commits torn told in
        told_written (outline old.disks) (outline d) old.index own_sound eight rests.rests stand draft ops to old.asked (own_told before) commits.stays (commits.list before) rests_now;
  }

  pub kept_in_doubt : (why : LogRefused) → CommitsTo state (own_slot old) draft old.disks d (Err why) → (Told state old.disks → IsTornTo state (own_slot old) draft old.disks d) →
      IsShardLog state (record old { disks = d; unshown = ops })
  kept_in_doubt why commits torn = record {
    asked = is.asked;
    sound = sound_in_doubt (outline old.disks) (outline d) old.index own_sound eight rests.rests stand draft ops to commits.in_doubt;
    told = λ told.
        let before = told_back (Err why) commits torn told in
        told_in_doubt (outline old.disks) (outline d) old.index own_sound eight rests.rests stand draft ops to old.asked (own_told before) commits.in_doubt (commits.kept before) (commits.after before);
  }
