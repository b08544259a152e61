-- What a tick and an append answer.
use Rattle.std.proofs.Common.{◌≡◌, ◌⊎◌, inl, inr, ℕ, Bool, true, false, Result, Ok, Err, OnErr, Option, Some, None, List, refl, sym, ap, subst, ◌∙◌}
use Rattle.outside.specs.DiskModel.{DiskState}
use Rattle.outside.specs.Results.{on_ok_then}
use Rattle.gated_log.specs.Closing.{is_closed_at}
use Rattle.shard_model.specs.ShardList.{ShardList, next_of}
use Rattle.shard_model.specs.Storing.{store}
use Rattle.shard_index.specs.declared.refused.AppendRefused.{AppendRefused}
use Rattle.shard_index.specs.declared.refused.AppendRefused.TheVariants.{AwaitFull, Fault, Full, Memory}
use Rattle.shard_index.specs.KeptIndex.{ToldReceipt, list_of}
use Rattle.record_codec.specs.declared.group.Op.{Op}
use Rattle.record_codec.specs.Records.{plain_ops}
use Rattle.group_plan.specs.Plan.{planned}
use Rattle.shard_fold.specs.declared.asked.Asked.{Asked}
use Rattle.shard_disks.specs.Calls.{Told, WriteNone, slot_seen}
use Rattle.shard_disks.specs.Images.{MayLeaveAll, faults_of, tell_all}
use Rattle.shard_disks.specs.Outline.{Reads, reads_in, slot_in}
use Rattle.shard_disks.specs.PlainDisks.{all_disks, outline}
use Rattle.shard_reading.specs.Held.{HoldsEither, HoldsOne}
use Rattle.shard_log.specs.Appending.{Appends, Follows, IsLeft, IsShown, Ticks, is_written}
use Rattle.shard_log.specs.Parts.{HoldsAmong, IsPart}
use Rattle.shard_log.specs.PlainShardLog.{ImagesHold, PlainShardLog, known, known_by, own_slot, settled_by, settled_list, shown, stored}
use Rattle.shard_log.specs.Steps.{IsSettled, Settles, Shows}
use Rattle.shard_log.proofs.PartLemmas.{blamed_as, blamed_none, blamed_then, ok_none, part_and, part_none, part_weaker}
use Rattle.shard_log.proofs.StoreLemmas.{known_old, no_other, stored_old}

-- a refusal is the same in both kinds of answer
abbrev Refusal : Type 0
Refusal = Result Unit AppendRefused

abbrev Answer : Type 0
Answer = Result ToldReceipt AppendRefused

abbrev refusal : AppendRefused → Refusal
refusal why = Err why

abbrev answer : AppendRefused → Answer
answer why = Err why

again : (why other : AppendRefused) → answer why ≡ Err other → refusal why ≡ Err other
again why other is = let e : why ≡ other = cc in ap Err e

back : (why other : AppendRefused) → refusal why ≡ Err other → answer why ≡ Err other
back why other is = let e : why ≡ other = cc in ap Err e

-- ---- what holds among three lists

module _ (asked : Asked) (first second after : ShardList) where
  pub among_either : (reads : Reads) → HoldsEither asked first second reads → HoldsAmong asked first second after reads
  among_either reads held = inl held

  -- one of the first two, or the third
  pub among_then : (list : ShardList) → (list ≡ first) ⊎ (list ≡ second) → (reads : Reads) → HoldsEither asked list after reads → HoldsAmong asked first second after reads
  among_then list is reads (inr held) = inr held
  among_then list (inl is) reads (inl held) = inl (inl (subst (λ l. HoldsOne asked l reads) is held))
  among_then list (inr is) reads (inl held) = inl (inr (subst (λ l. HoldsOne asked l reads) is held))

  pub among_others : (list : ShardList) → (list ≡ first) ⊎ (list ≡ second) → (reads : Reads) → HoldsAmong asked first second list reads → HoldsAmong asked first second after reads
  among_others list is reads (inl held) = inl held
  among_others list (inl is) reads (inr held) = inl (inl (subst (λ l. HoldsOne asked l reads) is held))
  among_others list (inr is) reads (inr held) = inl (inr (subst (λ l. HoldsOne asked l reads) is held))

-- ---- a list that a doubt may be settled to

settled_either : (doubted : Option ℕ) (closed : Bool) (first second : ShardList) →
    (settled_by doubted closed first second ≡ known_by doubted first second) ⊎ (settled_by doubted closed first second ≡ second)
settled_either None closed first second = inr refl
settled_either (Some slot) true first second = inl refl
settled_either (Some slot) false first second = inr refl

some_settled : {D : Type 0} (state : D → DiskState) (old : PlainShardLog D) → (list : ShardList) × IsSettled state old list
some_settled {D} state old = by (tell_all state (all_disks old.disks)) refl
  where
    by : (b : Bool) → tell_all state (all_disks old.disks) ≡ b → (list : ShardList) × IsSettled state old list
    by true tells = (
      settled_list state old,
      record {
        either = settled_either old.disks.doubted (is_closed_at (slot_in (outline old.disks) (own_slot old)).end (slot_seen state old.disks (own_slot old))) (shown old) (stored old);
        exact = λ told. refl;
      },
    )
    by false tells = (known old, record { either = inl refl; exact = λ told. let no : false ≡ true = sym tells ∙ told in absurd cc })

-- a fault isn't want of memory
no_memory : (why : AppendRefused) → why ≡ Fault → refusal why ≡ Err Memory → ⊥
no_memory why fault is = let named : why ≡ Memory = cc in let both : Fault ≡ Memory = sym fault ∙ named in absurd cc

-- ---- a tick

module _ {D : Type 0} (state : D → DiskState) (old mid : PlainShardLog D) where
  pub ticks : (new : PlainShardLog D) (result : Result Unit AppendRefused) → Settles state old mid (Ok tt) → Shows mid new result → Ticks state old new result
  ticks new result settles shows =
      let others = no_other result shows.only_memory in
      record {
        before = stored mid;
        settled = settles.settled;
        list = shows.list;
        shows = on_ok_then result (λ none. record { rests = ap (λ (s : PlainShardLog D). s.disks.doubted) shows.stays ∙ settles.rests; none = none }) shows.none;
        never_full = others.0;
        never_await_full = others.1;
        left = left result shows.memory;
        shown_stays = stays result shows.memory;
        in_doubt = λ is. absurd (others.2 is);
        memory = λ is. ap (λ (s : PlainShardLog D). s.disks.doubted) shows.stays ∙ settles.rests;
        writes_none = subst (λ ds. WriteNone state (all_disks old.disks) ds) (sym (ap (λ (s : PlainShardLog D). all_disks s.disks) shows.stays)) settles.writes_none;
        part = part_weaker state (HoldsEither old.asked (known old) (stored old)) (HoldsAmong old.asked (known old) (stored old) (stored mid)) old new
            (among_either old.asked (known old) (stored old) (stored mid))
            (part_and state (HoldsEither old.asked (known old) (stored old)) old mid new settles.part
            (part_none state (HoldsEither old.asked (known old) (stored old)) mid new (ap (λ (s : PlainShardLog D). s.asked) shows.stays) shows.cuts
            (ap (λ (s : PlainShardLog D). all_disks s.disks) shows.stays) (ap (λ (s : PlainShardLog D). s.disks.past) shows.stays)));
        cause = blamed_then _ _ _ (Ok tt) result settles.cause (ok_none tt Fault)
            (blamed_none _ _ result (ap (λ (s : PlainShardLog D). faults_of state (all_disks s.disks)) shows.stays) others.2);
      }
    where
      left : (result : Result Unit AppendRefused) → OnErr result (new ≡ mid) → OnErr result (IsLeft (stored mid) (stored mid) old new)
      left (Ok x) same = tt
      left (Err e) same = inr (inl (ap known same ∙ ap (λ d. known_by d (shown mid) (stored mid)) settles.rests, inl (ap stored same)))

      stays : (result : Result Unit AppendRefused) → OnErr result (new ≡ mid) → OnErr result (shown new ≡ shown old)
      stays (Ok x) same = tt
      stays (Err e) same = ap shown same ∙ ap list_of settles.index

  pub ticks_not : (why : AppendRefused) → Settles state old mid (Err why) → Ticks state old mid (Err why)
  ticks_not why settles =
      let found = some_settled state old in
      let fault : why ≡ Fault = let e : Err why ≡ Err Fault = settles.only_fault in cc in
      let shown_same : shown mid ≡ shown old = ap shown settles.stays in
      let stored_same : stored mid ≡ stored old = ap stored settles.stays in
      record {
        before = found.0;
        settled = found.1;
        list = tt;
        shows = tt;
        never_full = λ is. absurd cc;
        never_await_full = λ is. absurd cc;
        left = inl ((λ i. known_by (settles.stays_open i) (shown_same i) (stored_same i)), stored_same);
        shown_stays = shown_same;
        in_doubt = λ is none. settles.was_open (sym settles.stays_open ∙ none);
        memory = λ is. absurd (no_memory why fault is);
        writes_none = settles.writes_none;
        part = part_weaker state (HoldsEither old.asked (known old) (stored old)) (HoldsAmong old.asked (known old) (stored old) found.0) old mid
            (among_either old.asked (known old) (stored old) found.0) settles.part;
        cause = settles.cause;
      }

-- ---- an append

-- where all is shown each choice of images holds the list that is shown
images_shown : {D : Type 0} (state : D → DiskState) (s : PlainShardLog D) → IsShown s → Told state s.disks → (images : List (List ℕ)) → MayLeaveAll state (all_disks s.disks) images →
    HoldsEither s.asked (known s) (stored s) (reads_in images) → HoldsEither s.asked (shown s) (shown s) (reads_in images)
images_shown state s shows told images left held =
    subst (λ (l : ShardList). HoldsEither s.asked l (shown s) (reads_in images)) (known_old state s shows)
    (subst (λ (l : ShardList). HoldsEither s.asked (known s) l (reads_in images)) (stored_old state s shows) held)

left_behind : {D : Type 0} (before after : ShardList) (old new : PlainShardLog D) → IsLeft before before old new → IsLeft before after old new
left_behind before after old new (inl same) = inl same
left_behind before after old new (inr (inl left)) = inr (inl (left.0, inl (one left.1)))
  where
    one : {A : Type 0} → A ⊎ A → A
    one (inl a) = a
    one (inr a) = a
left_behind before after old new (inr (inr left)) = inr (inl (left.0, inl left.1))

module _ {D : Type 0} (state : D → DiskState) (ops : List Op) (now : ℕ) (old mid : PlainShardLog D) where
  pub appends_not : (why : AppendRefused) → Ticks state old mid (Err why) → Appends state ops now old mid (Err why)
  appends_not why ticks = record {
    before = ticks.before;
    settled = ticks.settled;
    list = tt;
    shows = tt;
    durable = tt;
    receipt = tt;
    full = λ is. absurd (ticks.never_full (again why Full is));
    not_full = tt;
    await_full = λ is. absurd (ticks.never_await_full (again why AwaitFull is));
    not_await_full = tt;
    unchanged = λ is. absurd (never is);
    left = left_behind ticks.before (store ticks.before (plain_ops ops) now) old mid ticks.left;
    shown_stays = inl ticks.shown_stays;
    in_doubt = λ is. ticks.in_doubt (again why Fault is);
    memory = λ is. ticks.memory (again why Memory is);
    unwritten = λ is. ticks.writes_none;
    part = part_weaker state (HoldsAmong old.asked (known old) (stored old) ticks.before) (HoldsAmong old.asked (known old) (stored old) (store ticks.before (plain_ops ops) now)) old mid
        (among_others old.asked (known old) (stored old) (store ticks.before (plain_ops ops) now) ticks.before ticks.settled.either) ticks.part;
    cause = blamed_as _ _ (Err why) (Err why) ticks.cause (again why Fault) (back why Fault);
  }
    where
      never : (answer why ≡ Err Full) ⊎ (answer why ≡ Err AwaitFull) → ⊥
      never (inl is) = ticks.never_full (again why Full is)
      never (inr is) = ticks.never_await_full (again why AwaitFull is)

  module _ (ticks : Ticks state old mid (Ok tt)) (new : PlainShardLog D) where
    abbrev after : ShardList
    after = store (shown mid) (plain_ops ops) now

    settled : IsSettled state old (shown mid)
    settled = subst (IsSettled state old) (sym ticks.list) ticks.settled

    part_first : IsPart state (HoldsAmong old.asked (known old) (stored old) after) old mid
    part_first = part_weaker state (HoldsAmong old.asked (known old) (stored old) ticks.before) (HoldsAmong old.asked (known old) (stored old) after) old mid
        (among_others old.asked (known old) (stored old) after ticks.before ticks.settled.either) ticks.part

    part : (result : Result Unit AppendRefused) → Follows state (planned (shown mid) ops now) after mid new result → IsPart state (HoldsAmong old.asked (known old) (stored old) after) old new
    part result follows =
        part_and state (HoldsAmong old.asked (known old) (stored old) after) old mid new part_first
        (part_weaker state (HoldsEither old.asked (shown mid) after) (HoldsAmong old.asked (known old) (stored old) after) mid new
        (among_then old.asked (known old) (stored old) after (shown mid) settled.either)
        (subst (λ (a : Asked). IsPart state (HoldsEither a (shown mid) after) mid new) ticks.part.asked follows.part))

    unwritten : (result : Result Unit AppendRefused) → Follows state (planned (shown mid) ops now) after mid new result → is_written (planned (shown mid) ops now) ≡ false →
        WriteNone state (all_disks old.disks) (all_disks new.disks)
    unwritten result follows is = subst (λ ds. WriteNone state (all_disks old.disks) ds) (sym (follows.unwritten is)) ticks.writes_none

    pub appends_ok : (receipt : ToldReceipt) (first : ℕ) → first ≡ next_of (shown mid) →
        receipt ≡ record { shard = new.asked.shard; first = first; next = next_of (shown new); list = shown new } →
        ImagesHold state new (known new) (stored new) →
        Follows state (planned (shown mid) ops now) after mid new (Ok tt) → Appends state ops now old new (Ok receipt)
    appends_ok receipt first first_is is images follows =
        let asked : new.asked ≡ old.asked = (part (Ok tt) follows).asked in
        record {
          before = shown mid;
          settled = settled;
          list = follows.list;
          shows = follows.shows;
          durable = λ told each left. images_shown state new follows.shows told each left (images told each left);
          receipt = is ∙ (λ i. record { shard = (asked i).shard; first = first_is i; next = next_of (shown new); list = shown new });
          full = λ e. absurd cc;
          not_full = follows.not_full;
          await_full = λ e. absurd cc;
          not_await_full = follows.not_await_full;
          unchanged = λ e. absurd (never e);
          left = tt;
          shown_stays = tt;
          in_doubt = λ is none. absurd cc;
          memory = λ is. absurd cc;
          unwritten = unwritten (Ok tt) follows;
          part = part (Ok tt) follows;
          cause = blamed_as _ _ (Ok tt) (Ok receipt)
              (blamed_then _ _ _ (Ok tt) (Ok tt) ticks.cause (ok_none tt Fault) follows.cause) (λ fault. absurd (ok_none receipt Fault fault)) (λ fault. absurd (ok_none tt Fault fault));
        }
      where
        answered : Answer
        answered = Ok receipt

        never : (answered ≡ Err Full) ⊎ (answered ≡ Err AwaitFull) → ⊥
        never (inl is) = absurd cc
        never (inr is) = absurd cc

    pub appends_err : (why : AppendRefused) → Follows state (planned (shown mid) ops now) after mid new (Err why) → Appends state ops now old new (Err why)
    appends_err why follows = record {
      before = shown mid;
      settled = settled;
      list = tt;
      shows = tt;
      durable = tt;
      receipt = tt;
      full = λ is. follows.full (again why Full is);
      not_full = tt;
      await_full = λ is. follows.await_full (again why AwaitFull is);
      not_await_full = tt;
      unchanged = λ is. let same : new ≡ mid = follows.unchanged (both is) in (ap shown same, subst IsShown (sym same) ticks.shows);
      left = inr follows.left;
      shown_stays = inr follows.shown_stays;
      in_doubt = λ is. follows.in_doubt (again why Fault is);
      memory = λ is. follows.memory (again why Memory is);
      unwritten = unwritten (Err why) follows;
      part = part (Err why) follows;
      cause = blamed_as _ _ (Err why) (Err why) (blamed_then _ _ _ (Ok tt) (Err why) ticks.cause (ok_none tt Fault) follows.cause) (again why Fault) (back why Fault);
    }
      where
        both : (answer why ≡ Err Full) ⊎ (answer why ≡ Err AwaitFull) →
            (refusal why ≡ Err Full) ⊎ (refusal why ≡ Err AwaitFull)
        both (inl is) = inl (again why Full is)
        both (inr is) = inr (again why AwaitFull is)
