-- The opening of a new shard, written or not.
use Rattle.std.proofs.Common.{◌≡◌, inl, inr, ℕ, ◌+◌, ◌<◌, Bool, true, false, IsErrOf, List, [], ◌∷◌, Ok, Err, length, map, slice_index_or, slice_set, refl, sym, ap, subst, ◌∙◌, arith}
use Rattle.std.specs.Prelude.{None, OnErr}
use Rattle.outside.specs.Along.{Keeps, keeps_at_first}
use Rattle.outside.specs.DiskModel.{DiskState, Torn}
use Rattle.gated_log.specs.Calls as log
use Rattle.gated_log.specs.declared.refused.LogRefused.{LogRefused}
use Rattle.gated_log.specs.declared.refused.LogRefused.TheVariants as refused
use Rattle.topic_name.specs.declared.descriptor.Descriptor.{Descriptor}
use Rattle.shard_fold.specs.Fold.{Holds, first_opening, is_new}
use Rattle.shard_disks.specs.Blame.{IsBlamedAt}
use Rattle.shard_disks.specs.Calls.{CommitsTo, IsTornTo, Told, slot_seen}
use Rattle.shard_disks.specs.Images.{AllRead, EachMoment, KeepsDisks, WithinAll, faults_of, seen_of, arms_of, tells_of}
use Rattle.shard_disks.specs.Lists.{EachHas}
use Rattle.shard_disks.specs.Outline.{IsEither, Outline, SlotOutline, no_slot, payloads_of, reads_in, reads_of, slot_at, slot_in, with_record, with_slot}
use Rattle.shard_disks.specs.PlainDisks.{PlainDisks, all_disks, outline}
use Rattle.shard_reading.specs.declared.unread.Unread.{Unread}
use Rattle.shard_reading.specs.declared.unread.Unread.TheVariants as unread
use Rattle.shard_reading.specs.declared.limits.TheConstants.{SLOT_BYTES}
use Rattle.shard_reading.specs.Giving.{IsCause}
use Rattle.shard_reading.specs.Held.{IsOpeningTorn, begins_by, with_opening}
use Rattle.shard_reading.specs.Reading.{HasSlotBytes}
use Rattle.shard_reading.specs.Steps.{BeginsShard, IsOutside, begun}
use Rattle.shard_reading.proofs.LookLemmas.{told_kept}

-- ---- whether it is written

pub not_new : (cuts : List Descriptor) (payloads : List (List ℕ)) → is_new cuts ≡ false → begins_by (Holds cuts) payloads ≡ false
not_new cuts [] e = e
not_new cuts (p ∷ payloads) e = refl

pub has_some : (cuts : List Descriptor) (payloads : List (List ℕ)) → 0 < length payloads → begins_by (Holds cuts) payloads ≡ false
has_some cuts [] some = absurd (omega (arith, some))
has_some cuts (p ∷ payloads) some = refl

pub has_none : (cuts : List Descriptor) (payloads : List (List ℕ)) → is_new cuts ≡ true → length payloads ≡ 0 → begins_by (Holds cuts) payloads ≡ true
has_none cuts [] new none = new
has_none cuts (p ∷ payloads) new none = absurd (omega (arith, none))

pub not_begun : {D : Type 0} (state : D → DiskState) (d : PlainDisks D) (b : Bool) → b ≡ false → (outline d).doubted ≡ None → length (outline d).slots ≡ 8
    → EachHas HasSlotBytes (outline d).slots → (Told state d → AllRead state (all_disks d) (λ reads. reads ≡ reads_of (outline d)))
    → BeginsShard state b d d (Ok tt)
not_begun state d b is rests eight limits images = subst (λ b. BeginsShard state b d d (Ok tt)) (sym is) (record {
  reads = λ told. refl;
  kept = tt;
  told = tt;
  rests = rests;
  eight = eight;
  limits = limits;
  side = refl;
  bytes = λ told. refl;
  torn = λ told. refl;
  any_moment = λ told. keeps_at_first (WithinAll state) (λ images. IsEither (reads_of (outline d)) (reads_of (outline d)) (reads_in images)) d.past (all_disks d);
  images = images;
  images_either = λ told read left. inl (images told read left);
  disks = record { tells = refl; arms = refl };
  cause = refl;
})

-- ---- the first slot

set_length : (slots : List SlotOutline) (slot : SlotOutline) → length (slice_set slots 0 slot) ≡ length slots
set_length [] slot = refl
set_length (s ∷ slots) slot = refl

set_limits : (slots : List SlotOutline) (slot : SlotOutline) → slot.limit ≡ (slot_at slots 0).limit → EachHas HasSlotBytes slots → EachHas HasSlotBytes (slice_set slots 0 slot)
set_limits [] slot same has = tt
set_limits (s ∷ slots) slot same has = (same ∙ has.0, has.1)

set_reads : (slots : List SlotOutline) (slot : SlotOutline) → slot.payloads ≡ (slot_at slots 0).payloads → map payloads_of (slice_set slots 0 slot) ≡ map payloads_of slots
set_reads [] slot same = refl
set_reads (s ∷ slots) slot same = ap (λ p. p ∷ map payloads_of slots) same

set_same : {A : Type 0} (xs : List A) (d : A) → slice_set xs 0 (slice_index_or xs 0 d) ≡ xs
set_same [] d = refl
set_same (x ∷ xs) d = refl

set_end : (slots : List SlotOutline) (slot : SlotOutline) → slot.end ≡ (slot_at slots 0).end → (slot_at (slice_set slots 0 slot) 0).end ≡ (slot_at slots 0).end
set_end [] slot same = refl
set_end (s ∷ slots) slot same = same

pub third_same : (xs : List (List ℕ)) → xs ≡ slice_set xs 2 (slice_index_or xs 2 [])
third_same [] = refl
third_same (a ∷ []) = refl
third_same (a ∷ b ∷ []) = refl
third_same (a ∷ b ∷ c ∷ xs) = refl

pub first_limit : (slots : List SlotOutline) → length slots ≡ 8 → EachHas HasSlotBytes slots → (slot_at slots 0).limit ≡ SLOT_BYTES
first_limit [] eight has = absurd (omega (arith, eight))
first_limit (s ∷ slots) eight has = has.0

-- ---- what is there before it is written

-- there is perhaps more room in the first slot
pub record IsReserved {D : Type 0} (old new : PlainDisks D) : Type 0 where
  pub stays : outline new ≡ with_slot 0 (record (slot_in (outline old) 0) { spare = (slot_in (outline new) 0).spare }) (outline old)
  pub disks : all_disks new ≡ all_disks old
  pub past : new.past ≡ old.past

pub reserved_none : {D : Type 0} (d : PlainDisks D) → IsReserved d d
reserved_none d = record {
  stays = ap (λ l. record (outline d) { slots = l }) (sym (set_same (outline d).slots no_slot));
  disks = refl;
  past = refl;
}

pub reserved_reads : {D : Type 0} (old new : PlainDisks D) → IsReserved old new → reads_of (outline new) ≡ reads_of (outline old)
reserved_reads old new was =
    ap reads_of was.stays
    ∙ ap (λ l. record { manifest = (outline old).manifest; slots = l }) (set_reads (outline old).slots (record (slot_in (outline old) 0) { spare = (slot_in (outline new) 0).spare }) refl)

pub reserved_end : {D : Type 0} (old new : PlainDisks D) → IsReserved old new → (slot_in (outline new) 0).end ≡ (slot_in (outline old) 0).end
reserved_end old new was =
    ap (λ (o : Outline). (slot_in o 0).end) was.stays ∙ set_end (outline old).slots (record (slot_in (outline old) 0) { spare = (slot_in (outline new) 0).spare }) refl

pub reserved_rests : {D : Type 0} (old new : PlainDisks D) → IsReserved old new → (outline new).doubted ≡ (outline old).doubted
reserved_rests old new was = ap (λ (o : Outline). o.doubted) was.stays

pub reserved_eight : {D : Type 0} (old new : PlainDisks D) → IsReserved old new → length (outline new).slots ≡ length (outline old).slots
reserved_eight old new was = ap (λ (o : Outline). length o.slots) was.stays ∙ set_length (outline old).slots (record (slot_in (outline old) 0) { spare = (slot_in (outline new) 0).spare })

pub reserved_limits : {D : Type 0} (old new : PlainDisks D) → IsReserved old new → EachHas HasSlotBytes (outline old).slots → EachHas HasSlotBytes (outline new).slots
reserved_limits old new was limits =
    subst (λ (o : Outline). EachHas HasSlotBytes o.slots) (sym was.stays)
    (set_limits (outline old).slots (record (slot_in (outline old) 0) { spare = (slot_in (outline new) 0).spare }) refl limits)

-- what the disks hold at each moment from there on is what they hold from before
moments_from : {D : Type 0} (state : D → DiskState) (P : List (List ℕ) → Type 0) (old mid new : PlainDisks D) → IsReserved old mid
    → Keeps (WithinAll state) P mid.past (all_disks mid) new.past (all_disks new) → Keeps (WithinAll state) P old.past (all_disks old) new.past (all_disks new)
moments_from state P old mid new was keeps =
    subst (λ l. Keeps (WithinAll state) P l (all_disks old) new.past (all_disks new)) was.past
    (subst (λ l. Keeps (WithinAll state) P mid.past l new.past (all_disks new)) was.disks keeps)

pub torn_none : (bytes : List ℕ) → Torn 0 25 bytes bytes
torn_none bytes = record { before = refl; after = refl; no_shorter = omega arith; no_longer = omega arith }

pub refused_early : {D : Type 0} (state : D → DiskState) (old new : PlainDisks D) (why : Unread) → IsReserved old new → length (outline old).slots ≡ 8
    → EachHas HasSlotBytes (outline old).slots → (Told state old → AllRead state (all_disks old) (λ reads. reads ≡ reads_of (outline old)))
    → (Told state old → IsOutside why) → ((before now : List ℕ) → now ≡ before → IsCause why before now)
    → BeginsShard state true old new (Err why)
refused_early state old new why was eight limits images told cause = record {
  reads = tt;
  kept = λ told. reserved_reads old new was;
  told = told;
  rests = tt;
  eight = reserved_eight old new was ∙ eight;
  limits = reserved_limits old new was limits;
  side = ap (λ (o : Outline). o.side) was.stays;
  bytes = tt;
  torn = λ told. subst (λ l. IsOpeningTorn true (seen_of state (all_disks old)) (seen_of state l)) (sym was.disks)
      (third_same (seen_of state (all_disks old)), torn_none (slice_index_or (seen_of state (all_disks old)) 2 []));
  any_moment = λ told. moments_from state (λ images. IsEither (reads_of (outline old)) (with_record 0 first_opening (reads_of (outline old))) (reads_in images)) old new new was
      (keeps_at_first (WithinAll state) (λ images. IsEither (reads_of (outline old)) (with_record 0 first_opening (reads_of (outline old))) (reads_in images)) new.past (all_disks new));
  images = tt;
  images_either = λ told. subst (λ ds. AllRead state ds (IsEither (reads_of (outline old)) (with_record 0 first_opening (reads_of (outline old))))) (sym was.disks)
      (λ read left. inl (images told read left));
  disks = record { tells = ap (tells_of state) was.disks; arms = ap (arms_of state) was.disks };
  cause = cause (faults_of state (all_disks old)) (faults_of state (all_disks new)) (ap (faults_of state) was.disks);
}

-- ---- what is there once it is written, or was perhaps

is_fault : (why : LogRefused) → OnErr {T = Unit {0}} (Err why) (IsErrOf {T = Unit {0}} (Err why) refused.Fault) → why ≡ refused.Fault
is_fault refused.Full e = absurd cc
is_fault refused.Fault e = refl
is_fault refused.Memory e = absurd cc

module _ {D : Type 0} (state : D → DiskState) (old mid new : PlainDisks D) (draft : List ℕ) (was : IsReserved old mid) (none : (slot_in (outline old) 0).end ≡ 0)
    (is : draft ≡ first_opening) (long : length draft ≡ 19) (eight : length (outline old).slots ≡ 8) (limits : EachHas HasSlotBytes (outline old).slots) where
  told_mid : Told state old → Told state mid
  told_mid told = told_kept state old mid (record { tells = ap (tells_of state) was.disks; arms = ap (arms_of state) was.disks }) told

  mid_end : (slot_in (outline mid) 0).end ≡ 0
  mid_end = reserved_end old mid was ∙ none

  with_it : with_record 0 draft (reads_of (outline mid)) ≡ with_record 0 first_opening (reads_of (outline old))
  with_it = ap (λ l. with_record 0 l (reads_of (outline mid))) is ∙ ap (with_record 0 first_opening) (reserved_reads old mid was)

  torn_to : IsTornTo state 0 draft mid new → IsOpeningTorn true (seen_of state (all_disks old)) (seen_of state (all_disks new))
  torn_to torn =
      subst (λ l. IsOpeningTorn true (seen_of state l) (seen_of state (all_disks new))) was.disks (
        torn.0,
        subst (λ n. Torn 0 n (slot_seen state mid 0) (slot_seen state new 0)) (ap (λ n. 6 + n) long)
            (subst (λ n. Torn n (6 + length draft) (slot_seen state mid 0) (slot_seen state new 0)) mid_end torn.1),
      )

  moments : EachMoment state mid new (IsEither (reads_of (outline mid)) (with_record 0 draft (reads_of (outline mid)))) → EachMoment state old new (IsEither (reads_of (outline old)) (begun true (reads_of (outline old))))
  moments each told =
      moments_from state (λ images. IsEither (reads_of (outline old)) (with_record 0 first_opening (reads_of (outline old))) (reads_in images)) old mid new was
      (subst (λ r. Keeps (WithinAll state) (λ images. IsEither r (with_record 0 first_opening (reads_of (outline old))) (reads_in images)) mid.past (all_disks mid) new.past (all_disks new)) (reserved_reads old mid was)
      (subst (λ r. Keeps (WithinAll state) (λ images. IsEither (reads_of (outline mid)) r (reads_in images)) mid.past (all_disks mid) new.past (all_disks new)) with_it (each (told_mid told))))

  keeps : KeepsDisks state (all_disks mid) (all_disks new) → KeepsDisks state (all_disks old) (all_disks new)
  keeps kept = subst (λ l. KeepsDisks state l (all_disks new)) was.disks kept

  pub opening_written : CommitsTo state 0 draft mid new (Ok tt) → (Told state mid → IsTornTo state 0 draft mid new) → (outline old).doubted ≡ None → BeginsShard state true old new (Ok tt)
  opening_written commits torn rests = record {
    reads = λ told. commits.list (told_mid told) ∙ with_it;
    kept = tt;
    told = tt;
    rests = ap (λ (o : Outline). o.doubted) commits.stays ∙ reserved_rests old mid was ∙ rests;
    eight = ap (λ (o : Outline). length o.slots) commits.stays ∙ set_length (outline mid).slots _ ∙ reserved_eight old mid was ∙ eight;
    limits = subst (λ (o : Outline). EachHas HasSlotBytes o.slots) (sym commits.stays) (set_limits (outline mid).slots _ refl (reserved_limits old mid was limits));
    side = ap (λ (o : Outline). o.side) commits.stays ∙ ap (λ (o : Outline). o.side) was.stays;
    bytes = λ told. commits.bytes (told_mid told)
        ∙ ap (λ n. slice_set (seen_of state (all_disks mid)) 2 (log.with_record n draft (slot_seen state mid 0))) mid_end
        ∙ ap (λ l. slice_set (seen_of state (all_disks mid)) 2 (log.with_record 0 l (slot_seen state mid 0))) is
        ∙ ap (λ l. with_opening true (seen_of state l)) was.disks;
    torn = λ told. torn_to (torn (told_mid told));
    any_moment = moments commits.any_moment;
    images = λ told. commits.images (told_mid told);
    images_either = λ told read left. inr (commits.images (told_mid told) read left ∙ (commits.list (told_mid told) ∙ with_it));
    disks = keeps commits.disks;
    cause = commits.cause.kept (λ e. cc) ∙ ap (faults_of state) was.disks;
  }

  pub opening_doubted : (why : LogRefused) → CommitsTo state 0 draft mid new (Err why) → (Told state mid → IsTornTo state 0 draft mid new)
      → IsBlamedAt 2 why (faults_of state (all_disks mid)) (faults_of state (all_disks new)) → BeginsShard state true old new (Err (unread.Fault 2))
  opening_doubted why commits torn blame = record {
    reads = tt;
    kept = λ told. commits.kept (told_mid told) ∙ reserved_reads old mid was;
    told = λ told. tt;
    rests = tt;
    eight = ap (λ (o : Outline). length o.slots) commits.in_doubt ∙ set_length (outline mid).slots _ ∙ reserved_eight old mid was ∙ eight;
    limits = subst (λ (o : Outline). EachHas HasSlotBytes o.slots) (sym commits.in_doubt) (set_limits (outline mid).slots _ refl (reserved_limits old mid was limits));
    side = ap (λ (o : Outline). o.side) commits.in_doubt ∙ ap (λ (o : Outline). o.side) was.stays;
    bytes = tt;
    torn = λ told. torn_to (torn (told_mid told));
    any_moment = moments commits.any_moment;
    images = tt;
    images_either = λ told read left. elim (commits.images_either (told_mid told) read left) [
      | inl e ↦ inl (e ∙ (commits.kept (told_mid told) ∙ reserved_reads old mid was))
      | inr e ↦ inr (e ∙ (commits.after (told_mid told) ∙ with_it))
    ];
    disks = keeps commits.disks;
    cause = subst (λ l. IsBlamedAt 2 refused.Fault l (faults_of state (all_disks new))) (ap (faults_of state) was.disks)
        (subst (λ w. IsBlamedAt 2 w (faults_of state (all_disks mid)) (faults_of state (all_disks new))) (is_fault why commits.only_fault) blame);
  }
