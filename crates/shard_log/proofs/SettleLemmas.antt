-- A doubt is settled.
use Rattle.std.proofs.Common.{◌≡◌, inl, inr, ◌↔◌, ℕ, ◌+◌, ◌<◌, ◌≤◌, Bool, true, false, Result, Ok, Err, Option, Some, None, is_none, List, [], ◌∷◌, length, take, drop, slice_index_or, refl, sym, ap, subst, ◌∙◌, length-append, eqb-true, eq-eqb, arith}
use Rattle.std.proofs.Math.ListN.{get_or-map}
use Rattle.std.proofs.Math.Seq.{map-set_same}
use Rattle.std.proofs.lemmas.List.{get_or-set_same}
use Rattle.outside.specs.DiskModel.{DiskState}
use Rattle.gated_log.specs.PlainLog.{AtRest, InDoubt, Lost, Standing, doubted_length, is_in_doubt, with_doubted}
use Rattle.gated_log.specs.declared.settled.Settled.{Settled}
use Rattle.gated_log.specs.declared.settled.Settled.TheVariants.{In, Out}
use Rattle.gated_log.specs.declared.refused.LogRefused.{LogRefused}
use Rattle.gated_log.specs.declared.refused.LogRefused.TheVariants.{Fault as Failed}
use Rattle.gated_log.specs.Closing.{is_closed_at}
use Rattle.shard_model.specs.ShardList.{ShardList}
use Rattle.shard_index.specs.declared.op.IndexOp.{IndexOp}
use Rattle.shard_index.specs.declared.refused.AppendRefused.TheVariants.{Fault}
use Rattle.shard_index.specs.KeptIndex.{KeptIndex, list_of}
use Rattle.shard_index.specs.Absorbing.{absorbed_all}
use Rattle.shard_fold.specs.declared.asked.Asked.{Asked}
use Rattle.shard_fold.specs.declared.limits.TheConstants.{MOST_SLOT}
use Rattle.shard_fold.specs.Fold.{Holds}
use Rattle.shard_fold.specs.FoldLaws.{newest_slot}
use Rattle.shard_fold.specs.Potential.{potential}
use Rattle.shard_disks.specs.Calls.{EndsDoubt, IsSettledIn, IsSettledOut, Told, slot_seen}
use Rattle.shard_disks.specs.Images.{EachMoment, tells_of}
use Rattle.shard_disks.specs.Lists.{EachHas}
use Rattle.shard_disks.specs.Outline.{IsEither, Outline, Reads, SlotOutline, doubted_place, no_slot, payloads_after, payloads_of, place_of, reads_after, reads_of, slot_in}
use Rattle.shard_disks.specs.PlainDisks.{PlainDisks, all_disks, outline}
use Rattle.shard_disks.specs.Stands.{SlotsStand}
use Rattle.shard_reading.specs.Held.{HoldsEither, cuts_of, held_in}
use Rattle.shard_reading.specs.Reading.{HasSlotBytes}
use Rattle.shard_log.specs.Parts.{IsPart}
use Rattle.shard_log.specs.PlainShardLog.{IsDoubtOf, IsShardLog, IsSound, IsTold, PlainShardLog, end_after, end_with, known, known_by, own_slot, settled_by, shown, stored}
use Rattle.shard_log.specs.Steps.{Settles}
use Rattle.shard_log.proofs.ListLemmas.{each_at, each_set, has_at}
use Rattle.shard_log.proofs.PartLemmas.{all_write_none, blamed_by, blamed_none, either_holds, moments_weaker, ok_none, part_none, part_read, tell_kept}

-- ---- numbers

pub sum_as : (a b c d m : ℕ) → a ≡ b → c ≡ d → b + d ≤ m → a + c ≤ m
sum_as a b c d m e f h = omega arith

end_in : (s : Standing) (e : ℕ) → is_in_doubt s ≡ true → e + (5 + doubted_length s) ≡ end_with s e
end_in (InDoubt payload) e doubt = refl
end_in AtRest e doubt = absurd cc
end_in Lost e doubt = absurd cc

some_after : (s : Standing) (payloads : List (List ℕ)) → 0 < length payloads → 0 < length (with_doubted s payloads)
some_after AtRest payloads some = some
some_after Lost payloads some = some
some_after (InDoubt payload) payloads some = let long = length-append payloads (payload ∷ []) in omega arith

pub known_same : (d : Option ℕ) (list : ShardList) → known_by d list list ≡ list
known_same None list = refl
known_same (Some place) list = refl

-- what is in doubt is of its own slot
pub doubt_of : (own : ℕ) (d : Option ℕ) → IsDoubtOf own d → is_none d ≡ false → d ≡ Some own
doubt_of own None is other = absurd cc
doubt_of own (Some slot) is other = ap Some is

-- ---- the gate in doubt

one_taken : (bytes : List ℕ) → (n : ℕ) (rest : List ℕ) → take 1 bytes ≡ n ∷ rest → rest ≡ []
one_taken [] n rest is = absurd cc
one_taken (b ∷ bytes) n rest is = cc

closed_means : (place : ℕ) (bytes : List ℕ) → is_closed_at place bytes ≡ true → take 1 (drop place bytes) ≡ 0 ∷ []
closed_means place bytes closed = by (drop place bytes) closed
  where
    by : (l : List ℕ) → is_closed_at 0 l ≡ true → take 1 l ≡ 0 ∷ []
    by [] closed = absurd cc
    by (n ∷ l) closed = ap (λ m. m ∷ []) (eqb-true n 0 closed)

closed_is : (place : ℕ) (bytes : List ℕ) → take 1 (drop place bytes) ≡ 0 ∷ [] → is_closed_at place bytes ≡ true
closed_is place bytes is = by (drop place bytes) is
  where
    by : (l : List ℕ) → take 1 l ≡ 0 ∷ [] → is_closed_at 0 l ≡ true
    by [] is = absurd cc
    by (n ∷ l) is = let e : n ≡ 0 = cc in eq-eqb n 0 e

-- ---- outlines

module _ (o n : Outline) (index : KeptIndex) (unshown : List IndexOp) (is : IsSound o index unshown) (eight : length o.slots ≡ 8) where
  abbrev k : ℕ
  k = newest_slot index.cuts

  abbrev list : ShardList
  list = list_of index

  abbrev later : ShardList
  later = absorbed_all unshown (list_of index)

  inside : k < length o.slots
  inside = let w = is.within in omega arith

  own_limit : HasSlotBytes (slot_in o k)
  own_limit = each_at HasSlotBytes o.slots k no_slot is.limits inside

  pub sound_in : o.doubted ≡ Some k → SlotsStand o.doubted o.slots → IsSettledIn k o n → IsSound n index unshown
  sound_in doubted stand settled =
      let here : slot_in n k ≡ record (slot_in o k) {
        payloads = (slot_in n k).payloads;
        end = (slot_in o k).end + (5 + doubted_length (slot_in o k).standing);
        spare = (slot_in n k).spare;
        standing = AtRest;
      } = ap (λ (m : Outline). slot_in m k) settled ∙ get_or-set_same o.slots k (record (slot_in o k) {
        payloads = (slot_in n k).payloads;
        end = (slot_in o k).end + (5 + doubted_length (slot_in o k).standing);
        spare = (slot_in n k).spare;
        standing = AtRest;
      }) no_slot inside in
      let none : n.doubted ≡ None = ap (λ (m : Outline). m.doubted) settled in
      let doubts : is_in_doubt (slot_in o k).standing ≡ true =
      has_at k (λ (slot : SlotOutline). is_in_doubt slot.standing ≡ true) (λ (slot : SlotOutline). slot.standing ≡ AtRest) o.slots no_slot (subst (λ d. SlotsStand d o.slots) doubted stand) in
      let end : (slot_in n k).end ≡ end_after (slot_in o k) = ap (λ (s : SlotOutline). s.end) here ∙ end_in (slot_in o k).standing (slot_in o k).end doubts in
      let rests : (slot_in n k).standing ≡ AtRest = ap (λ (s : SlotOutline). s.standing) here in
      record {
        limits = subst (λ (m : Outline). EachHas HasSlotBytes m.slots) (sym settled) (each_set HasSlotBytes o.slots k _ is.limits own_limit);
        within = is.within;
        doubted = subst (IsDoubtOf k) (sym none) tt;
        group = is.group;
        stand = is.stand;
        room = sum_as (slot_in n k).end (end_after (slot_in o k)) (potential (known_by n.doubted list later)) (potential later) MOST_SLOT end
            (ap (λ d. potential (known_by d list later)) none) is.room_after;
        room_after = sum_as (end_after (slot_in n k)) (end_after (slot_in o k)) (potential later) (potential later) MOST_SLOT
            (ap (λ s. end_with s (slot_in n k).end) rests ∙ end) refl is.room_after;
      }

  pub sound_out : o.doubted ≡ Some k → IsSettledOut k o n → IsSound n index []
  sound_out doubted settled =
      let here : slot_in n k ≡ record (slot_in o k) { standing = AtRest } =
      ap (λ (m : Outline). slot_in m k) settled ∙ get_or-set_same o.slots k (record (slot_in o k) { standing = AtRest }) no_slot inside in
      let none : n.doubted ≡ None = ap (λ (m : Outline). m.doubted) settled in
      let end : (slot_in n k).end ≡ (slot_in o k).end = ap (λ (s : SlotOutline). s.end) here in
      let rests : (slot_in n k).standing ≡ AtRest = ap (λ (s : SlotOutline). s.standing) here in
      let room : (slot_in o k).end + potential list ≤ MOST_SLOT =
      subst (λ d. (slot_in o k).end + potential (known_by d list later) ≤ MOST_SLOT) doubted is.room in
      record {
        limits = subst (λ (m : Outline). EachHas HasSlotBytes m.slots) (sym settled) (each_set HasSlotBytes o.slots k _ is.limits own_limit);
        within = is.within;
        doubted = subst (IsDoubtOf k) (sym none) tt;
        group = refl;
        stand = refl;
        room = sum_as (slot_in n k).end (slot_in o k).end (potential (known_by n.doubted list list)) (potential list) MOST_SLOT end
            (ap potential (known_same n.doubted list)) room;
        room_after = sum_as (end_after (slot_in n k)) (slot_in o k).end (potential list) (potential list) MOST_SLOT
            (ap (λ s. end_with s (slot_in n k).end) rests ∙ end) refl room;
      }

  -- ---- where the disks tell

  module _ (asked : Asked) (told : IsTold asked o index (known_by o.doubted list later) later) (none : n.doubted ≡ None) (rests : reads_after n ≡ reads_of n) where
    pub told_in : reads_of n ≡ reads_after o → IsTold asked n index (known_by n.doubted list later) later
    told_in after =
        let here : (slot_in n k).payloads ≡ with_doubted (slot_in o k).standing (slot_in o k).payloads =
        sym (get_or-map payloads_of n.slots k no_slot)
        ∙ (ap (λ (r : Reads). slice_index_or r.slots k []) after ∙ get_or-map payloads_after o.slots k no_slot) in
        record {
          cuts = ap (cuts_of asked) after ∙ told.cuts;
          some = subst (λ (l : List (List ℕ)). 0 < length l) (sym here) (some_after (slot_in o k).standing (slot_in o k).payloads told.some);
          now = ap (held_in asked) after ∙ (told.after ∙ sym (ap (λ d. Holds (known_by d list later)) none));
          after = ap (held_in asked) (rests ∙ after) ∙ told.after;
        }

    pub told_out : o.doubted ≡ Some k → IsSettledOut k o n → IsTold asked n index (known_by n.doubted list list) list
    told_out doubted settled =
        let same : reads_of n ≡ reads_of o =
        ap reads_of settled
        ∙ ap (λ (l : List (List (List ℕ))). record { manifest = o.manifest; slots = l }) (map-set_same payloads_of o.slots k (record (slot_in o k) { standing = AtRest }) no_slot refl) in
        let here : slot_in n k ≡ record (slot_in o k) { standing = AtRest } =
        ap (λ (m : Outline). slot_in m k) settled ∙ get_or-set_same o.slots k (record (slot_in o k) { standing = AtRest }) no_slot inside in
        let holds : held_in asked (reads_of o) ≡ Holds list = told.now ∙ ap (λ d. Holds (known_by d list later)) doubted in
        record {
          cuts = ap (cuts_of asked) same ∙ told.cuts;
          some = subst (λ (s : SlotOutline). 0 < length s.payloads) (sym here) told.some;
          now = ap (held_in asked) same ∙ (holds ∙ sym (ap Holds (known_same n.doubted list)));
          after = ap (held_in asked) (rests ∙ same) ∙ holds;
        }

-- ---- the shard

module _ {D : Type 0} (state : D → DiskState) (old : PlainShardLog D) (is : IsShardLog state old) where
  pub settle_none : old.disks.doubted ≡ None → Settles state old old (Ok tt)
  settle_none none = record {
    settled = record {
      either = inr refl;
      exact = λ told. sym (ap (λ d. settled_by d (is_closed_at (slot_in (outline old.disks) (own_slot old)).end (slot_seen state old.disks (own_slot old))) (shown old) (stored old)) none);
    };
    rests = none;
    index = refl;
    stays = tt;
    stays_open = tt;
    was_open = tt;
    only_fault = tt;
    writes_none = all_write_none state (all_disks old.disks);
    part = part_none state (HoldsEither old.asked (known old) (stored old)) old old refl refl refl refl;
    cause = blamed_none _ _ (Ok tt) refl (ok_none tt Fault);
  }

  module _ (d : PlainDisks D) (eight : length (outline old.disks).slots ≡ 8) (doubted : old.disks.doubted ≡ Some (own_slot old)) where
    place : doubted_place (outline old.disks) ≡ own_slot old
    place = ap place_of doubted

    moments : (result : Result Settled LogRefused) → EndsDoubt state old.disks d result →
        EachMoment state old.disks d (HoldsEither old.asked (known old) (stored old))
    moments result ends = λ told.
        moments_weaker state (IsEither (reads_of (outline old.disks)) (reads_after (outline old.disks))) (HoldsEither old.asked (known old) (stored old)) old.disks d
        (λ reads. either_holds old.asked (known old) (stored old) (reads_of (outline old.disks)) (reads_after (outline old.disks)) reads (is.told told).now (is.told told).after)
        ends.any_moment told

    part : (unshown : List IndexOp) (result : Result Settled LogRefused) → EndsDoubt state old.disks d result →
        IsPart state (HoldsEither old.asked (known old) (stored old)) old (record old { disks = d; unshown = unshown })
    part unshown result ends =
        part_read state (HoldsEither old.asked (known old) (stored old)) old (record old { disks = d; unshown = unshown }) refl refl ends.disks ends.writes_none (moments result ends)

    -- the list that the bytes say
    abbrev end_now : ℕ
    end_now = (slot_in (outline old.disks) (own_slot old)).end

    abbrev seen_now : List ℕ
    seen_now = slot_seen state old.disks (own_slot old)

    abbrev closed : Bool
    closed = is_closed_at end_now seen_now

    abbrev gate_taken : List ℕ
    gate_taken = take 1 (drop (slot_in (outline old.disks) (own_slot old)).end (slot_seen state old.disks (own_slot old)))

    said : (settled : Settled) → (Told state old.disks → (settled ≡ Out) ↔ (take 1 (drop (slot_in (outline old.disks) (doubted_place (outline old.disks))).end (slot_seen state old.disks (doubted_place (outline old.disks)))) ≡ 0 ∷ [])) →
        Told state old.disks → (settled ≡ Out) ↔ (gate_taken ≡ 0 ∷ [])
    said settled exact = subst (λ n. Told state old.disks → (settled ≡ Out) ↔ (take 1 (drop (slot_in (outline old.disks) n).end (slot_seen state old.disks n)) ≡ 0 ∷ [])) place exact

    list_in : (b : Bool) → (b ≡ true → ⊥) → settled_by old.disks.doubted b (shown old) (stored old) ≡ stored old
    list_in false other = ap (λ d. settled_by d false (shown old) (stored old)) doubted
    list_in true other = absurd (other refl)

    list_out : (b : Bool) → b ≡ true → settled_by old.disks.doubted b (shown old) (stored old) ≡ shown old
    list_out true closes = ap (λ d. settled_by d true (shown old) (stored old)) doubted
    list_out false closes = absurd cc

    not_out : In ≡ Out → ⊥
    not_out is = absurd cc

    pub settle_in : EndsDoubt state old.disks d (Ok In) → Settles state old (record old { disks = d }) (Ok tt)
    settle_in ends = record {
      settled = record {
        either = inr refl;
        exact = λ told. sym (list_in closed (λ closes. not_out ((said In ends.exact told).1 (closed_means end_now seen_now closes))));
      };
      rests = ap (λ (o : Outline). o.doubted) (ends.in_stays refl);
      index = refl;
      stays = tt;
      stays_open = tt;
      was_open = tt;
      only_fault = tt;
      writes_none = ends.writes_none;
      part = part old.unshown (Ok In) ends;
      cause = blamed_by _ _ (Ok In) (Ok tt) ends.cause (λ fault. absurd (ok_none tt Fault fault)) (λ fault. absurd (ok_none _ Failed fault));
    }

    pub settle_out : EndsDoubt state old.disks d (Ok Out) → Settles state old (record old { disks = d; unshown = [] }) (Ok tt)
    settle_out ends = record {
      settled = record {
        either = inl (sym (ap (λ d. known_by d (shown old) (stored old)) doubted));
        exact = λ told. sym (list_out closed (closed_is end_now seen_now ((said Out ends.exact told).0 refl)));
      };
      rests = ap (λ (o : Outline). o.doubted) (ends.out_stays refl);
      index = refl;
      stays = tt;
      stays_open = tt;
      was_open = tt;
      only_fault = tt;
      writes_none = ends.writes_none;
      part = part [] (Ok Out) ends;
      cause = blamed_by _ _ (Ok Out) (Ok tt) ends.cause (λ fault. absurd (ok_none tt Fault fault)) (λ fault. absurd (ok_none _ Failed fault));
    }

    pub settle_err : (why : LogRefused) → EndsDoubt state old.disks d (Err why) → Settles state old (record old { disks = d }) (Err Fault)
    settle_err why ends = record {
      settled = tt;
      rests = tt;
      index = refl;
      stays = refl;
      stays_open = ap (λ (o : Outline). o.doubted) ends.fault_stays;
      was_open = λ none. let no : Some (own_slot old) ≡ None = sym doubted ∙ none in absurd cc;
      only_fault = refl;
      writes_none = ends.writes_none;
      part = part old.unshown (Err why) ends;
      cause = blamed_by _ _ (Err why) (Err Fault) ends.cause (λ fault. ends.only_fault) (λ fault. refl);
    }

    -- ---- what is kept

    told_back : Told state d → (result : Result Settled LogRefused) → EndsDoubt state old.disks d result → Told state old.disks
    told_back told result ends = tell_kept state (all_disks d) (all_disks old.disks) (sym ends.disks.tells) told

    pub kept_in : EndsDoubt state old.disks d (Ok In) → SlotsStand old.disks.doubted (outline old.disks).slots → (reads_after (outline d) ≡ reads_of (outline d)) →
        IsShardLog state (record old { disks = d })
    kept_in ends stand rests =
        let settled : IsSettledIn (own_slot old) (outline old.disks) (outline d) = subst (λ n. IsSettledIn n (outline old.disks) (outline d)) place (ends.in_stays refl) in
        record {
          asked = is.asked;
          sound = sound_in (outline old.disks) (outline d) old.index old.unshown is.sound eight doubted stand settled;
          told = λ told.
              let before = told_back told (Ok In) ends in
              told_in (outline old.disks) (outline d) old.index old.unshown is.sound eight old.asked (is.told before) (ap (λ (o : Outline). o.doubted) settled) rests (ends.in_after refl before);
        }

    pub kept_out : EndsDoubt state old.disks d (Ok Out) → (reads_after (outline d) ≡ reads_of (outline d)) → IsShardLog state (record old { disks = d; unshown = [] })
    kept_out ends rests =
        let settled : IsSettledOut (own_slot old) (outline old.disks) (outline d) = subst (λ n. IsSettledOut n (outline old.disks) (outline d)) place (ends.out_stays refl) in
        record {
          asked = is.asked;
          sound = sound_out (outline old.disks) (outline d) old.index old.unshown is.sound eight doubted settled;
          told = λ told.
              let before = told_back told (Ok Out) ends in
              told_out (outline old.disks) (outline d) old.index old.unshown is.sound eight old.asked (is.told before) (ap (λ (o : Outline). o.doubted) settled) rests doubted settled;
        }

  -- the disks stay but for a count, a history and what was asked of them
  pub kept_same : (d : PlainDisks D) → outline d ≡ outline old.disks → tells_of state (all_disks d) ≡ tells_of state (all_disks old.disks) → IsShardLog state (record old { disks = d })
  kept_same d same tells = record {
    asked = is.asked;
    sound = subst (λ o. IsSound o old.index old.unshown) (sym same) is.sound;
    told = λ told.
        subst (λ (o : Outline). IsTold old.asked o old.index (known_by o.doubted (shown old) (stored old)) (stored old)) (sym same)
        (is.told (tell_kept state (all_disks d) (all_disks old.disks) (sym tells) told));
  }
