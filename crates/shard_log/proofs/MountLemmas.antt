-- What a mount leaves, and why it is refused.
use Rattle.std.proofs.Common.{◌≡◌, ◌⊎◌, inl, inr, ℕ, zero, suc, ◌<◌, ◌≤◌, IsTrue, Result, Ok, Err, None, List, [], ◌∷◌, ◌++◌, length, take, drop, map, refl, sym, ap, subst, ◌∙◌, arith}
use Rattle.std.specs.Prelude.{Vec}
use Rattle.std.proofs.lemmas.List.{length-map}
use Rattle.std.specs.declared.alloc.Global.{Global}
use Rattle.outside.specs.Along.{Keeps, keeps_weaker}
use Rattle.outside.specs.DiskModel.{DiskState}
use Rattle.outside.specs.Torn.{torn_same}
use Rattle.gated_log.specs.PlainLog.{AtRest, end_of}
use Rattle.gated_log.specs.Closing.{IsGateTorn}
use Rattle.gated_log.specs.Records.{records}
use Rattle.gated_log.specs.declared.refused.LogRefused.{LogRefused}
use Rattle.gated_log.specs.declared.refused.LogRefused.TheVariants as log
use Rattle.pair_log.specs.declared.side.Side.{Side}
use Rattle.pair_log.specs.Mounted.{IsMountTorn}
use Rattle.pair_log.specs.Sides.{number_of}
use Rattle.topic_name.specs.declared.mounting.MountRefused.TheVariants.{Memory}
use Rattle.shard_model.specs.ShardList.{ShardList}
use Rattle.shard_index.specs.KeptIndex.{KeptIndex, list_of}
use Rattle.shard_fold.specs.declared.asked.Asked.{Asked}
use Rattle.shard_fold.specs.declared.limits.TheConstants.{MOST_SLOT}
use Rattle.shard_fold.specs.Fold.{Folded, Holds, first_manifest}
use Rattle.shard_fold.specs.FoldLaws.{manifest_is_first, newest_slot}
use Rattle.shard_fold.specs.Giving.{IsAsked}
use Rattle.shard_fold.specs.Potential.{potential}
use Rattle.shard_disks.specs.declared.limits.Limits.{Limits}
use Rattle.shard_disks.specs.Blame.{IsBlamedAt}
use Rattle.shard_disks.specs.Calls.{Told}
use Rattle.shard_disks.specs.Images.{MayLeaveAll, WithinAll, faults_of, seen_of, stays_now, tell_all}
use Rattle.shard_disks.specs.Lists.{Pairwise}
use Rattle.shard_disks.specs.Mounting.{AreBehindSync, AreMountTorn, LastStep, MountsDisks, OnceSynced, ReadsAsBefore, RefusesDisks, mounted_bytes, none_behind, side_in}
use Rattle.shard_disks.specs.Outline.{Reads, SlotOutline, no_slot, reads_after, reads_in, reads_of, slot_in, with_first}
use Rattle.shard_disks.specs.PlainDisks.{PlainDisks, all_disks, outline}
use Rattle.shard_disks.specs.Stands.{SlotsStand}
use Rattle.shard_reading.specs.declared.unread.Unread.{Unread}
use Rattle.shard_reading.specs.declared.unread.Unread.TheVariants as unread
use Rattle.shard_reading.specs.Giving.{IsCause, IsWhy, unread_of}
use Rattle.shard_reading.specs.Held.{IsOpeningTorn, begins, disk_place, held_in, with_opening}
use Rattle.shard_reading.specs.Reading.{ReadsShard}
use Rattle.shard_log.specs.Mounting.{HaltsEarly, HaltsMounted, HoldAsBefore, HoldThis, IsMountBlamed, IsRefusal, MountMoments, Mounts, Refuses, disk_number, held_at, refusal_of}
use Rattle.shard_log.specs.PlainShardLog.{IsDoubtOf, IsShardLog, PlainShardLog, end_after, end_with, known_by}
use Rattle.shard_log.proofs.ListLemmas.{each_at}
use Rattle.shard_log.proofs.PartLemmas.{tell_kept}
use Rattle.shard_log.proofs.SettleLemmas.{known_same, sum_as}

-- images that read as at the start hold what those held
before_holds : {D : Type 0} (state : D → DiskState) (disks : List D) (asked : Asked) (images : List (List ℕ)) → ReadsAsBefore state disks (first_manifest asked) images → HoldAsBefore state disks asked images
before_holds state disks asked images before = record { before = before.before; left = before.left; held = by before.reads }
  where
    by : (reads_in images ≡ reads_in before.before) ⊎ (reads_in images ≡ with_first (first_manifest asked) (reads_in before.before)) → held_at asked images ≡ held_at asked before.before
    by (inl same) = ap (held_in asked) same
    by (inr same) = ap (held_in asked) same ∙ manifest_is_first asked (reads_in before.before).manifest (reads_in before.before).slots

-- ---- a mount that is done

module _ {D : Type 0} (state : D → DiskState) (disks : List D) (asked : Asked) (limits : Limits) (mid : PlainDisks D) (mounts : MountsDisks state disks limits (first_manifest asked) mid) where
  pub told_mid : IsTrue (tell_all state disks) → Told state mid
  told_mid told = tell_kept state disks (all_disks mid) mounts.kept.tells told

  abbrev found : Reads
  found = reads_in (seen_of state disks)

  -- it reads as the disks did
  pub held_mid : IsTrue (tell_all state disks) → held_in asked (reads_of (outline mid)) ≡ held_at asked (seen_of state disks)
  held_mid told = ap (held_in asked) (mounts.list told) ∙ manifest_is_first asked found.manifest found.slots

  begins_mid : IsTrue (tell_all state disks) → begins asked (reads_of (outline mid)) ≡ begins asked (with_first (first_manifest asked) found)
  begins_mid told = ap (begins asked) (mounts.list told)

  -- the moments of it, and of what was read then
  moments_of : (new : PlainDisks D) (result : Result KeptIndex Unread) → ReadsShard state asked mid new result → (held : Folded ShardList) → IsTrue (tell_all state disks) → held_in asked (reads_of (outline mid)) ≡ held
      → MountMoments state disks asked held new.past (all_disks new)
  moments_of new result reads held told is = let last : LastStep state disks (reads_of (outline mid)) mid.past (all_disks mid) = mounts.last_step told in record {
    earlier = last.earlier;
    begun = last.begun;
    mounted = all_disks mid;
    untouched = last.untouched;
    bytes = mounts.bytes told;
    until = subst (λ past. Keeps (WithinAll state) (HoldAsBefore state disks asked) [] disks past (all_disks mid)) last.recorded
        (keeps_weaker (WithinAll state) (ReadsAsBefore state disks (first_manifest asked)) (HoldAsBefore state disks asked) [] disks mid.past (all_disks mid) (before_holds state disks asked) (mounts.any_moment told));
    synced = λ images left. ap (held_in asked) (last.synced images left) ∙ is;
    there = λ images left. ap (held_in asked) (mounts.images told images left) ∙ is;
    onwards = subst (λ past. Keeps (WithinAll state) (HoldThis asked held) past (all_disks mid) new.past (all_disks new)) last.recorded
        (keeps_weaker (WithinAll state) (λ images. held_in asked (reads_in images) ≡ held_in asked (reads_of (outline mid))) (HoldThis asked held) mid.past (all_disks mid) new.past (all_disks new)
        (λ images same. same ∙ is) (reads.any_moment (told_mid told)));
  }

  pub halts_mounted : (new : PlainDisks D) (result : Result KeptIndex Unread) → ReadsShard state asked mid new result → IsTrue (tell_all state disks) → HaltsMounted state disks asked (all_disks new)
  halts_mounted new result reads told = record {
    past = new.past;
    moments = moments_of new result reads (held_at asked (seen_of state disks)) told (held_mid told);
    left = λ images left. reads.holds (told_mid told) images left ∙ held_mid told;
  }

  module _ (new : PlainDisks D) (index : KeptIndex) (reads : ReadsShard state asked mid new (Ok index)) where
    abbrev mounted : PlainShardLog D
    mounted = record { disks = new; index = index; unshown = []; asked = asked }

    held_new : Told state mid → held_in asked (reads_of (outline new)) ≡ Holds (list_of index)
    held_new told = reads.same told ∙ reads.exact told

    told_back : Told state new → Told state mid
    told_back told = tell_kept state (all_disks new) (all_disks mid) (sym reads.disks.tells) told

    pub shard_mounts : Mounts state disks asked mounted
    shard_mounts = record {
      holds = λ told. sym (held_mid told) ∙ reads.exact (told_mid told);
      shows = record { rests = reads.rests; none = refl };
      asked_kept = refl;
      images = λ told images left. inl (ap (held_in asked) (reads.images (told_back told) images left) ∙ held_new (told_back told));
      moments = λ told. moments_of new (Ok index) reads (Holds (list_of index)) told (reads.exact (told_mid told));
      bytes = λ told.
          reads.bytes (told_mid told)
          ∙ (ap (λ b. with_opening b (seen_of state (all_disks mid))) (begins_mid told)
          ∙ ap (with_opening (begins asked (with_first (first_manifest asked) found))) (mounts.bytes told));
      kept = record { tells = reads.disks.tells ∙ mounts.kept.tells; arms = reads.disks.arms ∙ mounts.kept.arms };
      faults = reads.cause ∙ mounts.faults;
    }

    pub mount_keeps : IsAsked asked → SlotsStand (outline new).doubted (outline new).slots → reads_after (outline new) ≡ reads_of (outline new) → IsShardLog state mounted
    mount_keeps is stand rests =
        let k : ℕ = newest_slot index.cuts in
        let list : ShardList = list_of index in
        let none : new.doubted ≡ None = reads.rests in
        let inside : k < length (outline new).slots = let eight = reads.eight in let within = reads.index.within in omega arith in
        let standing : (slot_in (outline new) k).standing ≡ AtRest =
        each_at (λ (slot : SlotOutline). slot.standing ≡ AtRest) (outline new).slots k no_slot (subst (λ d. SlotsStand d (outline new).slots) none stand) inside in
        record {
          asked = is;
          sound = record {
            limits = reads.limits;
            within = reads.index.within;
            doubted = subst (IsDoubtOf k) (sym none) tt;
            group = refl;
            stand = refl;
            room = sum_as (slot_in (outline new) k).end (slot_in (outline new) k).end (potential (known_by new.doubted list list)) (potential list) MOST_SLOT refl
                (ap potential (known_same new.doubted list)) reads.index.room;
            room_after = sum_as (end_after (slot_in (outline new) k)) (slot_in (outline new) k).end (potential list) (potential list) MOST_SLOT
                (ap (λ s. end_with s (slot_in (outline new) k).end) standing) refl reads.index.room;
          };
          told = λ told. record {
            cuts = reads.index.cuts told;
            some = reads.index.some told;
            now = held_new (told_back told) ∙ sym (ap Holds (known_same new.doubted list));
            after = ap (held_in asked) rests ∙ held_new (told_back told);
          };
        }

-- ---- a mount that is refused

no_rise : (place : ℕ) (before now : List ℕ) → IsBlamedAt place log.Memory before now → now ≡ before
no_rise place [] now blamed = absurd blamed
no_rise place (b ∷ before) [] blamed = absurd blamed
no_rise zero (b ∷ before) (n ∷ now) blamed = let same : n ≡ b = blamed.0.kept (λ is. absurd cc) in (λ i. same i ∷ blamed.1 i)
no_rise (suc place) (b ∷ before) (n ∷ now) blamed = (λ i. blamed.0 i ∷ no_rise place before now blamed.1 i)

mount_torn_same : (snapshot : List ℕ) (first second : List (List ℕ)) (old : List ℕ) → IsMountTorn snapshot first second old old
mount_torn_same snapshot [] [] old = torn_same 0 _ old
mount_torn_same snapshot [] (y ∷ ys) old = inl refl
mount_torn_same snapshot (x ∷ xs) second old = inl refl

gates_same : (bytes : List (List ℕ)) → Pairwise (λ old new. IsGateTorn (end_of (records old)) old new) bytes bytes
gates_same [] = tt
gates_same (b ∷ bytes) = (inl refl, gates_same bytes)

torn_nothing : (snapshot : List ℕ) (bytes : List (List ℕ)) → 2 ≤ length bytes → AreMountTorn snapshot bytes bytes
torn_nothing snapshot [] two = absurd (omega arith)
torn_nothing snapshot (first ∷ []) two = absurd (omega arith)
torn_nothing snapshot (first ∷ (second ∷ bytes)) two = (mount_torn_same snapshot (records first) (records second) first, inl refl, gates_same bytes)

module _ {D : Type 0} (state : D → DiskState) (disks : List D) (asked : Asked) where
  pub refused_at_once : ((disk : D) (image : List ℕ) → (state disk).left_since (state disk).calls image → (state disk).may_leave image)
      → (same : Vec D Global) → same.items ≡ disks → length disks ≡ 10 → Refuses state disks asked (same, Memory)
  refused_at_once only same are ten = record {
    ten = ap length are ∙ ten;
    why = tt;
    cause = ap (faults_of state) are;
    bytes = λ told. inl (subst (AreMountTorn (first_manifest asked) (seen_of state disks)) (sym (ap (seen_of state) are)) (torn_nothing (first_manifest asked) (seen_of state disks) two));
    moments = λ told. inl (subst (HaltsEarly state disks asked) (sym are) (record {
      any_moment = λ images w. record { before = images; left = stays_now state only disks images w; held = refl };
      left = λ images left. record { before = images; left = left; held = refl };
      synced = λ behind images w. absurd (none_behind state disks (omega (arith, ten)) behind);
    }));
    kept = record { tells = ap (λ ds. map (λ d. (state d).tells) ds) are; arms = ap (λ ds. map (λ d. (state d).arms) ds) are };
  }
    where
      two : 2 ≤ length (seen_of state disks)
      two = let long : length (seen_of state disks) ≡ length disks = length-map disks (λ d. (state d).seen) in omega arith

  halts_early : (now : List D) → ((images : List (List ℕ)) → WithinAll state disks now images → ReadsAsBefore state disks (first_manifest asked) images)
      → ((images : List (List ℕ)) → MayLeaveAll state now images → ReadsAsBefore state disks (first_manifest asked) images)
      → (AreBehindSync state disks now → (images : List (List ℕ)) → OnceSynced state (take 2 now ++ drop 2 disks) now images → reads_in images ≡ with_first (first_manifest asked) (reads_in (seen_of state disks)))
      → HaltsEarly state disks asked now
  halts_early now moments left synced = record {
    any_moment = λ images w. before_holds state disks asked images (moments images w);
    left = λ images l. before_holds state disks asked images (left images l);
    synced = λ behind images w. ap (held_in asked) (synced behind images w) ∙ manifest_is_first asked (reads_in (seen_of state disks)).manifest (reads_in (seen_of state disks)).slots;
  }

  pub refused_disks : (back : Vec D Global) (place : ℕ) (why : LogRefused) → RefusesDisks state disks (first_manifest asked) (back, place, why) →
      Refuses state disks asked (back, refusal_of asked 0 (unread_of place why))
  refused_disks back place log.Full refuses = absurd (refuses.never_full refl)
  refused_disks back place log.Fault refuses = record {
    ten = refuses.ten;
    why = tt;
    cause = (place, refl, refuses.cause);
    bytes = λ told. inl (refuses.bytes told);
    moments = λ told. inl (halts_early back.items (refuses.any_moment told) (refuses.images told) (refuses.synced told));
    kept = refuses.kept;
  }
  refused_disks back place log.Memory refuses = record {
    ten = refuses.ten;
    why = tt;
    cause = no_rise place _ _ refuses.cause;
    bytes = λ told. inl (refuses.bytes told);
    moments = λ told. inl (halts_early back.items (refuses.any_moment told) (refuses.images told) (refuses.synced told));
    kept = refuses.kept;
  }

  why_refused : (side other : Side) (held : Folded ShardList) (why : Unread) → (IsTrue (tell_all state disks) → side ≡ other) → (IsTrue (tell_all state disks) → IsWhy why held) →
      IsRefusal (IsTrue (tell_all state disks)) asked other held (refusal_of asked (number_of side) why)
  why_refused side other held (unread.Damaged log place) same is = λ told. (log, ap (λ s. disk_number asked (disk_place (number_of s) log)) (same told), is told)
  why_refused side other held (unread.Another what kept wanted) same is = is
  why_refused side other held (unread.Fault place) same is = tt
  why_refused side other held unread.Memory same is = tt

  cause_refused : (side : ℕ) (why : Unread) (before now : List ℕ) → IsCause why before now → IsMountBlamed asked (refusal_of asked side why) before now
  cause_refused side (unread.Damaged log place) before now cause = cause
  cause_refused side (unread.Another what kept wanted) before now cause = cause
  cause_refused side (unread.Fault place) before now cause = (place, refl, cause)
  cause_refused side unread.Memory before now cause = cause

  pub refused_read : (limits : Limits) (mid new : PlainDisks D) (why : Unread) (back : Vec D Global) → MountsDisks state disks limits (first_manifest asked) mid →
      ReadsShard state asked mid new (Err why) → back.items ≡ all_disks new → length (all_disks new) ≡ 10 → Refuses state disks asked (back, refusal_of asked (number_of (outline new).side) why)
  refused_read limits mid new why back mounts reads are ten = record {
    ten = ap length are ∙ ten;
    why = why_refused (outline new).side (side_in (seen_of state disks)) (held_at asked (seen_of state disks)) why
        (λ told. reads.side ∙ mounts.side told)
        (λ told. subst (IsWhy why) (held_mid state disks asked limits mid mounts told) (reads.exact (told_mid state disks asked limits mid mounts told)));
    cause = subst (λ l. IsMountBlamed asked (refusal_of asked (number_of (outline new).side) why) l (faults_of state back.items)) mounts.faults
        (subst (λ ds. IsMountBlamed asked (refusal_of asked (number_of (outline new).side) why) (faults_of state (all_disks mid)) (faults_of state ds)) (sym are)
        (cause_refused (number_of (outline new).side) why (faults_of state (all_disks mid)) (faults_of state (all_disks new)) reads.cause));
    bytes = λ told. inr (
        subst (λ ds. IsOpeningTorn (begins asked (with_first (first_manifest asked) (reads_in (seen_of state disks)))) (mounted_bytes (first_manifest asked) (seen_of state disks)) (seen_of state ds)) (sym are)
        (subst (λ l. IsOpeningTorn (begins asked (with_first (first_manifest asked) (reads_in (seen_of state disks)))) l (seen_of state (all_disks new))) (mounts.bytes told)
        (subst (λ b. IsOpeningTorn b (seen_of state (all_disks mid)) (seen_of state (all_disks new))) (ap (begins asked) (mounts.list told)) (reads.torn (told_mid state disks asked limits mid mounts told))))
        );
    moments = λ told. inr (subst (HaltsMounted state disks asked) (sym are) (halts_mounted state disks asked limits mid mounts new (Err why) reads told));
    kept = record {
      tells = ap (λ ds. map (λ d. (state d).tells) ds) are ∙ (reads.disks.tells ∙ mounts.kept.tells);
      arms = ap (λ ds. map (λ d. (state d).arms) ds) are ∙ (reads.disks.arms ∙ mounts.kept.arms);
    };
  }
