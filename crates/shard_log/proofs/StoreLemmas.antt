-- What was planned is stored.
use Rattle.std.proofs.Common.{◌≡◌, ◌⊎◌, inl, inr, ℕ, ◌+◌, ◌≤◌, Bool, true, false, if◌then◌else◌, IsErrOf, Result, Ok, Err, OnOk, OnErr, List, [], ◌∷◌, length, refl, sym, ap, subst, ◌∙◌, Option, Some, None}
use Rattle.outside.specs.DiskModel.{DiskState}
use Rattle.outside.specs.Results.{on_ok_then}
use Rattle.topic_model.specs.Profile.{whole}
use Rattle.shard_model.specs.ShardList.{ShardList}
use Rattle.shard_model.specs.Storing.{Op as PlainOp, kept_ops, store}
use Rattle.shard_model.specs.Capacity.{awaits_too_many}
use Rattle.shard_model.specs.Lists.{IsList}
use Rattle.shard_index.specs.declared.op.IndexOp.{IndexOp}
use Rattle.shard_index.specs.declared.refused.AppendRefused.{AppendRefused}
use Rattle.shard_index.specs.declared.refused.AppendRefused.TheVariants.{AwaitFull, Fault, Full, Memory}
use Rattle.shard_index.specs.KeptIndex.{list_of}
use Rattle.shard_index.specs.Absorbing.{absorbed_all, all_stand, are_of_group}
use Rattle.shard_index.specs.Sound.{newest_bytes}
use Rattle.record_codec.specs.declared.group.Op.{Op}
use Rattle.record_codec.specs.declared.group.Op.TheVariants as op
use Rattle.record_codec.specs.Records.{KeptGroup, index_ops, plain_ops}
use Rattle.record_codec.specs.Reading.{group_in}
use Rattle.record_codec.specs.Spelling.{spelled_group}
use Rattle.shard_fold.specs.declared.asked.Asked.{Asked}
use Rattle.shard_fold.specs.Fold.{Holds, with_group}
use Rattle.shard_fold.specs.FoldLaws.{group_is_taken}
use Rattle.shard_fold.specs.Potential.{potential}
use Rattle.shard_fold.specs.PotentialLaws.{group_takes}
use Rattle.group_plan.specs.declared.outcome.Stored.{Stored}
use Rattle.group_plan.specs.Plan.{AwaitsTooMany, IsFull, KeepsNothing, Planned, Stores as ToStore, lacks_room, planned, planned_by, written}
use Rattle.group_plan.specs.Planning.{IsSpelled, IsStored}
use Rattle.group_plan.specs.PlanLaws.{nothing_kept, plan_stands}
use Rattle.shard_disks.specs.Images.{faults_of}
use Rattle.shard_disks.specs.Outline.{Outline, Reads}
use Rattle.shard_disks.specs.PlainDisks.{all_disks}
use Rattle.shard_reading.specs.Held.{HoldsEither}
use Rattle.shard_log.specs.Appending.{Follows, IsLeftBehind, IsShown, Stores, is_written}
use Rattle.shard_log.specs.Parts.{IsBlamed, IsPart}
use Rattle.shard_log.specs.PlainShardLog.{PlainShardLog, known, known_by, shown, stored}
use Rattle.shard_log.specs.Steps.{HasMoreRoom, IsToStore, Shows, Writes}
use Rattle.shard_log.proofs.PartLemmas.{blamed_none, blamed_then, err_none, ok_none, part_and, part_none}
use Rattle.shard_log.proofs.SettleLemmas.{known_same}

-- ---- no answer but want of memory

only_memory : {T : Type 0} (result : Result T AppendRefused) (why : AppendRefused) → (Memory ≡ why → ⊥) → OnErr result (IsErrOf result Memory) → result ≡ Err why → ⊥
only_memory (Ok x) why other memory is = absurd cc
only_memory (Err e) why other memory is = let same : e ≡ Memory = cc in let named : e ≡ why = cc in other (sym same ∙ named)

pub no_other : {T : Type 0} (result : Result T AppendRefused) → OnErr result (IsErrOf result Memory) → (result ≡ Err Full → ⊥) × (result ≡ Err AwaitFull → ⊥) × (result ≡ Err Fault → ⊥)
no_other result memory = (only_memory result Full (λ e. absurd cc) memory, only_memory result AwaitFull (λ e. absurd cc) memory, only_memory result Fault (λ e. absurd cc) memory)

-- what is doubted isn't at rest
still_open : {doubted : Option ℕ} {slot : ℕ} → doubted ≡ Some slot → doubted ≡ None → ⊥
still_open some none = absurd cc

-- ---- storing where all is shown

module _ {D : Type 0} (state : D → DiskState) (old : PlainShardLog D) (rests : IsShown old) where
  pub stored_old : stored old ≡ shown old
  stored_old = ap (λ u. absorbed_all u (shown old)) rests.none

  pub known_old : known old ≡ shown old
  known_old = ap (λ (l : ShardList). known_by old.disks.doubted (shown old) l) stored_old ∙ known_same old.disks.doubted (shown old)

  pub left_old : (after : ShardList) → IsLeftBehind (shown old) after old
  left_old after = inl (known_old, inl stored_old)

  -- nothing was done
  pub store_nothing : (after : ShardList) → Stores state after old old (Err Memory)
  store_nothing after = record {
    list = tt;
    shows = tt;
    never_full = λ is. absurd cc;
    never_await_full = λ is. absurd cc;
    left = left_old after;
    shown_stays = refl;
    in_doubt = λ is none. absurd cc;
    memory = λ is. rests.rests;
    part = part_none state (HoldsEither old.asked (shown old) after) old old refl refl refl refl;
    cause = blamed_none _ _ (Err Memory) refl (err_none Memory Fault (λ e. absurd cc));
  }

  module _ {E : Type 0} (mid : PlainShardLog D) (made : Result Unit E) (room : HasMoreRoom old mid made) where
    shown_mid : shown mid ≡ shown old
    shown_mid = ap (λ (s : PlainShardLog D). list_of s.index) room.stays

    asked_mid : mid.asked ≡ old.asked
    asked_mid = ap (λ (s : PlainShardLog D). s.asked) room.stays

    pub shown_rests : (mid.disks.doubted ≡ old.disks.doubted) → IsShown mid
    shown_rests same = record { rests = same ∙ rests.rests; none = ap (λ (s : PlainShardLog D). s.unshown) room.stays ∙ rests.none }

    part_mid : (P : Reads → Type 0) → IsPart state P old mid
    part_mid P = part_none state P old mid asked_mid (ap (λ (s : PlainShardLog D). s.index.cuts) room.stays) room.disks room.past

    stored_mid : stored mid ≡ shown old
    stored_mid = ap (λ (s : PlainShardLog D). absorbed_all s.unshown (list_of s.index)) room.stays ∙ stored_old

    known_mid : known mid ≡ shown old
    known_mid =
        ap (λ (l : ShardList). known_by mid.disks.doubted l (stored mid)) shown_mid
        ∙ (ap (λ (l : ShardList). known_by mid.disks.doubted (shown old) l) stored_mid ∙ known_same mid.disks.doubted (shown old))

    pub store_unroomed : (after : ShardList) → Stores state after old mid (Err Memory)
    store_unroomed after = record {
      list = tt;
      shows = tt;
      never_full = λ is. absurd cc;
      never_await_full = λ is. absurd cc;
      left = inl (known_mid, inl stored_mid);
      shown_stays = shown_mid;
      in_doubt = λ is none. absurd cc;
      memory = λ is. ap (λ (o : Outline). o.doubted) room.outline_stays ∙ rests.rests;
      part = part_mid (HoldsEither old.asked (shown old) after);
      cause = blamed_none _ _ (Err Memory) (ap (faults_of state) room.disks) (err_none Memory Fault (λ e. absurd cc));
    }

    module _ (draft : List ℕ) (ops : List IndexOp) (between : PlainShardLog D) where
      abbrev after : ShardList
      after = absorbed_all ops (shown old)

      behind : (result : Result Unit AppendRefused) → Writes state draft ops mid between result → IsPart state (HoldsEither old.asked (shown old) after) old between
      behind result writes =
          let own : IsPart state (HoldsEither old.asked (shown mid) (absorbed_all ops (shown mid))) mid between =
          subst (λ (a : Asked). IsPart state (HoldsEither a (shown mid) (absorbed_all ops (shown mid))) mid between) asked_mid writes.part in
          part_and state (HoldsEither old.asked (shown old) after) old mid between (part_mid (HoldsEither old.asked (shown old) after))
          (subst (λ (l : ShardList). IsPart state (HoldsEither old.asked l (absorbed_all ops l)) mid between) shown_mid own)

      blamed : (result : Result Unit AppendRefused) → Writes state draft ops mid between result → IsBlamed (faults_of state (all_disks old.disks)) (faults_of state (all_disks between.disks)) result
      blamed result writes = subst (λ l. IsBlamed l (faults_of state (all_disks between.disks)) result) (ap (faults_of state) room.disks) writes.cause

      shown_between : (result : Result Unit AppendRefused) → Writes state draft ops mid between result → shown between ≡ shown old
      shown_between result writes = ap (λ (s : PlainShardLog D). list_of s.index) writes.stays ∙ shown_mid

      stored_between : (result : Result Unit AppendRefused) → Writes state draft ops mid between result → stored between ≡ after
      stored_between result writes = ap (λ (s : PlainShardLog D). absorbed_all s.unshown (list_of s.index)) writes.stays ∙ ap (absorbed_all ops) shown_mid

      pub store_failed : (why : AppendRefused) → Writes state draft ops mid between (Err why) → Stores state after old between (Err why)
      store_failed why writes =
          let fault : why ≡ Fault = let e : Err why ≡ Err Fault = writes.only_fault in cc in
          record {
            list = tt;
            shows = tt;
            never_full = λ is. absurd cc;
            never_await_full = λ is. absurd cc;
            left = inl (ap (λ d. known_by d (shown between) (stored between)) writes.in_doubt ∙ shown_between (Err why) writes, inr (stored_between (Err why) writes));
            shown_stays = shown_between (Err why) writes;
            in_doubt = λ is none. absurd (still_open writes.in_doubt none);
            memory = λ is. let no : why ≡ Memory = cc in let fault_memory : Fault ≡ Memory = sym fault ∙ no in absurd cc;
            part = behind (Err why) writes;
            cause = blamed (Err why) writes;
          }

      pub store_shown : (new : PlainShardLog D) (result : Result Unit AppendRefused) → Writes state draft ops mid between (Ok tt) → Shows between new result → Stores state after old new result
      store_shown new result writes shows =
          let others = no_other result shows.only_memory in
          record {
            list = on_ok_then result (λ list. list ∙ stored_between (Ok tt) writes) shows.list;
            shows = on_ok_then result (λ none. record { rests = ap (λ (s : PlainShardLog D). s.disks.doubted) shows.stays ∙ writes.rests; none = none }) shows.none;
            never_full = others.0;
            never_await_full = others.1;
            left = left result shows.memory;
            shown_stays = stays result shows.memory;
            in_doubt = λ is. absurd (others.2 is);
            memory = λ is. ap (λ (s : PlainShardLog D). s.disks.doubted) shows.stays ∙ writes.rests;
            part = part_and state (HoldsEither old.asked (shown old) after) old between new (behind (Ok tt) writes)
                (part_none state (HoldsEither old.asked (shown old) after) between new (ap (λ (s : PlainShardLog D). s.asked) shows.stays) shows.cuts
                (ap (λ (s : PlainShardLog D). all_disks s.disks) shows.stays) (ap (λ (s : PlainShardLog D). s.disks.past) shows.stays));
            cause = blamed_then _ _ _ (Ok tt) result (blamed (Ok tt) writes) (ok_none tt Fault)
                (blamed_none _ _ result (ap (λ (s : PlainShardLog D). faults_of state (all_disks s.disks)) shows.stays) others.2);
          }
        where
          left : (result : Result Unit AppendRefused) → OnErr result (new ≡ between) → OnErr result (IsLeftBehind (shown old) after new)
          left (Ok x) same = tt
          left (Err e) same = inr (
            ap known same ∙ (ap (λ d. known_by d (shown between) (stored between)) writes.rests ∙ stored_between (Ok tt) writes),
            ap stored same ∙ stored_between (Ok tt) writes,
          )

          stays : (result : Result Unit AppendRefused) → OnErr result (new ≡ between) → OnErr result (shown new ≡ shown old)
          stays (Ok x) same = tt
          stays (Err e) same = ap shown same ∙ shown_between (Ok tt) writes

-- ---- what a plan that stores tells

of_group : (ops : List Op) → are_of_group (index_ops ops) ≡ true
of_group [] = refl
of_group (op.Store m ∷ ops) = of_group ops
of_group (op.Release publisher incarnation id ∷ ops) = of_group ops
of_group (op.Forget publisher incarnation ∷ ops) = of_group ops

pub to_store : (list : ShardList) (ops : List Op) (now : ℕ) (found : Stored) → IsList list → newest_bytes list ≤ whole.generation_bytes →
    IsStored list ops now found → IsSpelled list ops now found →
    IsToStore list found.record.items found.ops.items × (absorbed_all found.ops.items list ≡ store list (plain_ops ops) now)
to_store list ops now found is bytes stores spelled =
    let g : KeptGroup = written list ops now in
    let ready = plan_stands list ops now g is stores.group in
    let own : found.ops.items ≡ index_ops g.ops = stores.ops_are ∙ sym ready.operations in
    let stand : all_stand list (index_ops g.ops) ≡ true = subst (λ l. all_stand list l ≡ true) (sym ready.operations) ready.stand in
    let absorbed : absorbed_all (index_ops g.ops) list ≡ store list (plain_ops ops) now = subst (λ l. absorbed_all l list ≡ store list (plain_ops ops) now) (sym ready.operations) ready.absorbed in
    let few : length (absorbed_all (index_ops g.ops) list).awaited ≤ whole.awaited = subst (λ (l : ShardList). length l.awaited ≤ whole.awaited) (sym absorbed) ready.awaited in
    let room : 5 + length (spelled_group g) + potential (absorbed_all (index_ops g.ops) list) ≤ potential list = group_takes list g is bytes spelled.has stand in (
      record {
        some = spelled.some;
        group = subst (λ l. are_of_group l ≡ true) (sym own) (of_group g.ops);
        stand = subst (λ l. all_stand list l ≡ true) (sym own) stand;
        taken = λ slot place.
            ap (λ bytes. with_group slot place list (group_in bytes)) stores.record_is
            ∙ (group_is_taken slot place list g spelled.has ready.first stand few ∙ sym (ap (λ l. Holds (absorbed_all l list)) own));
        room = subst (λ (l : List ℕ). 5 + length l + potential (absorbed_all found.ops.items list) ≤ potential list) (sym stores.record_is)
            (subst (λ (l : List IndexOp). 5 + length (spelled_group g) + potential (absorbed_all l list) ≤ potential list) (sym own) room);
      },
      ap (λ l. absorbed_all l list) own ∙ absorbed,
    )

none_kept : (list : ShardList) (ops : List Op) (kept : List PlainOp) (now : ℕ) → planned_by list ops kept now ≡ KeepsNothing → kept ≡ []
none_kept list ops [] now is = refl
none_kept list ops (o ∷ kept) now is = by (lacks_room list (o ∷ kept)) (awaits_too_many whole list (o ∷ kept) now) is
  where
    by : (lacks many : Bool) → (if lacks then IsFull else if many then AwaitsTooMany else ToStore (written list ops now)) ≡ KeepsNothing → o ∷ kept ≡ []
    by true many is = absurd cc
    by false true is = absurd cc
    by false false is = absurd cc

-- ---- what comes of a plan

module _ {D : Type 0} (state : D → DiskState) (old : PlainShardLog D) (rests : IsShown old) (ops : List Op) (now : ℕ) where
  abbrev came : Planned
  came = planned (shown old) ops now

  abbrev behind_group : ShardList
  behind_group = store (shown old) (plain_ops ops) now

  same : IsPart state (HoldsEither old.asked (shown old) behind_group) old old
  same = part_none state (HoldsEither old.asked (shown old) behind_group) old old refl refl refl refl

  pub group_nothing : came ≡ KeepsNothing → Follows state came behind_group old old (Ok tt)
  group_nothing is = record {
    list = sym (nothing_kept (plain_ops ops) (shown old) now (none_kept (shown old) ops (kept_ops (shown old) (plain_ops ops)) now is));
    shows = rests;
    full = λ e. absurd cc;
    not_full = λ e. let no : KeepsNothing ≡ IsFull = sym is ∙ e in absurd cc;
    await_full = λ e. absurd cc;
    not_await_full = λ e. let no : KeepsNothing ≡ AwaitsTooMany = sym is ∙ e in absurd cc;
    unchanged = λ e. refl;
    left = tt;
    shown_stays = tt;
    in_doubt = λ is none. absurd cc;
    memory = λ is. rests.rests;
    unwritten = λ e. refl;
    part = same;
    cause = blamed_none _ _ (Ok tt) refl (ok_none tt Fault);
  }

  pub group_full : came ≡ IsFull → Follows state came behind_group old old (Err Full)
  group_full is = record {
    list = tt;
    shows = tt;
    full = λ e. is;
    not_full = tt;
    await_full = λ e. absurd cc;
    not_await_full = tt;
    unchanged = λ e. refl;
    left = left_old state old rests behind_group;
    shown_stays = refl;
    in_doubt = λ is none. absurd cc;
    memory = λ is. rests.rests;
    unwritten = λ e. refl;
    part = same;
    cause = blamed_none _ _ (Err Full) refl (err_none Full Fault (λ e. absurd cc));
  }

  pub group_await_full : came ≡ AwaitsTooMany → Follows state came behind_group old old (Err AwaitFull)
  group_await_full is = record {
    list = tt;
    shows = tt;
    full = λ e. absurd cc;
    not_full = tt;
    await_full = λ e. is;
    not_await_full = tt;
    unchanged = λ e. refl;
    left = left_old state old rests behind_group;
    shown_stays = refl;
    in_doubt = λ is none. absurd cc;
    memory = λ is. rests.rests;
    unwritten = λ e. refl;
    part = same;
    cause = blamed_none _ _ (Err AwaitFull) refl (err_none AwaitFull Fault (λ e. absurd cc));
  }

  pub group_memory : Follows state came behind_group old old (Err Memory)
  group_memory = record {
    list = tt;
    shows = tt;
    full = λ e. absurd cc;
    not_full = tt;
    await_full = λ e. absurd cc;
    not_await_full = tt;
    unchanged = λ e. refl;
    left = left_old state old rests behind_group;
    shown_stays = refl;
    in_doubt = λ is none. absurd cc;
    memory = λ is. rests.rests;
    unwritten = λ e. refl;
    part = same;
    cause = blamed_none _ _ (Err Memory) refl (err_none Memory Fault (λ e. absurd cc));
  }

  pub group_stored : (new : PlainShardLog D) (result : Result Unit AppendRefused) (taken : List IndexOp) (g : KeptGroup) → came ≡ ToStore g → absorbed_all taken (shown old) ≡ behind_group →
      Stores state (absorbed_all taken (shown old)) old new result → Follows state came behind_group old new result
  group_stored new result taken g is absorbed stores = record {
    list = on_ok_then result (λ list. list ∙ absorbed) stores.list;
    shows = stores.shows;
    full = λ e. absurd (stores.never_full e);
    not_full = known_ok result (λ e. let no : ToStore g ≡ IsFull = sym is ∙ e in absurd cc);
    await_full = λ e. absurd (stores.never_await_full e);
    not_await_full = known_ok result (λ e. let no : ToStore g ≡ AwaitsTooMany = sym is ∙ e in absurd cc);
    unchanged = λ e. never e;
    left = subst (λ (l : ShardList). OnErr result (IsLeftBehind (shown old) l new)) absorbed stores.left;
    shown_stays = stores.shown_stays;
    in_doubt = stores.in_doubt;
    memory = stores.memory;
    unwritten = λ e. let no : true ≡ false = sym (ap is_written is) ∙ e in absurd cc;
    part = subst (λ (l : ShardList). IsPart state (HoldsEither old.asked (shown old) l) old new) absorbed stores.part;
    cause = stores.cause;
  }
    where
      known_ok : {P : Type 0} (result : Result Unit AppendRefused) → P → OnOk result P
      known_ok (Ok x) p = p
      known_ok (Err e) p = tt

      never : (result ≡ Err Full) ⊎ (result ≡ Err AwaitFull) → new ≡ old
      never (inl e) = absurd (stores.never_full e)
      never (inr e) = absurd (stores.never_await_full e)
