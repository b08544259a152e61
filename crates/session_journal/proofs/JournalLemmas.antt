-- What a journal keeps and holds through its calls, by what these did to its pair.
use Rattle.std.proofs.Common.{◌≡◌, ◌⊎◌, ℕ, ◌<◌, IsTrue, List, [], ◌∷◌, ◌++◌, length, inl, inr, Result, Ok, Err, OnOk, refl, sym, ap, subst, ◌∙◌, arith}
use Rattle.outside.specs.Along.{WithinBoth, keeps_weaker}
use Rattle.outside.specs.DiskModel.{DiskState}
use Rattle.pair_log.specs.declared.doubt.Doubt.{Doubt}
use Rattle.pair_log.specs.declared.doubt.Doubt.TheVariants.{Nothing, Commit, Rewrite, Restart}
use Rattle.pair_log.specs.declared.side.Side.{Side}
use Rattle.pair_log.specs.declared.side.Side.TheVariants.{First, Second}
use Rattle.pair_log.specs.Epochs.{read_pair}
use Rattle.pair_log.specs.PlainPair.{EachMoment, HasEither, IsEither, PlainPair, Told, after_doubt, after_of, both_disks}
use Rattle.pair_log.specs.Sides.{first_of, second_of}
use Rattle.session_state.specs.KeptSession.{KeptSessions}
use Rattle.session_journal.specs.declared.asked.Asked.{Asked}
use Rattle.session_journal.specs.declared.head.Head.{Head}
use Rattle.session_journal.specs.declared.limits.TheConstants.{MOST_BYTES}
use Rattle.session_journal.specs.declared.refused.JournalRefused.{JournalRefused}
use Rattle.session_journal.specs.declared.refused.JournalRefused.TheVariants.{Fault, Memory}
use Rattle.session_journal.specs.Committed.{Commits}
use Rattle.session_journal.specs.Fold.{Folded, Holds, FoldsEither, folded}
use Rattle.session_journal.specs.PairCalls.{HasMoreRoom, KeepsDisks, Makes}
use Rattle.session_journal.specs.PlainJournal.{HasHead, ImagesHold, IsHead, IsHolding, IsJournal, IsToldJournal, PlainJournal, head_told, held, held_after}
use Rattle.session_journal.proofs.ReadLemmas.{rests_after}

-- ---- lists

-- a record more leaves the snapshot as it is
pub head_more : (payloads : List (List ℕ)) (payload : List ℕ) → 0 < length payloads → head_told (payloads ++ payload ∷ []) ≡ head_told payloads
head_more [] payload some = absurd (omega (arith, some))
head_more (p ∷ payloads) payload some = refl

pub some_more : (payloads : List (List ℕ)) (payload : List ℕ) → 0 < length payloads → 0 < length (payloads ++ payload ∷ [])
some_more [] payload some = absurd (omega (arith, some))
some_more (p ∷ payloads) payload some = omega arith

pub has_more : (asked : Asked) (head : Head) (payloads : List (List ℕ)) (payload : List ℕ) → HasHead asked head payloads
    → IsHolding (folded asked (payloads ++ payload ∷ [])) → HasHead asked head (payloads ++ payload ∷ [])
has_more asked head payloads payload has holds =
    record { some = some_more payloads payload has.some; holds = holds; told = has.told ∙ sym (head_more payloads payload has.some) }

-- ---- disks

pub told_on : {D : Type 0} (state : D → DiskState) (side : Side) (a b : D) → IsTrue (state (first_of side a b)).tells → IsTrue (state (second_of side a b)).tells
    → IsTrue (state a).tells × IsTrue (state b).tells
told_on state First a b f s = (f, s)
told_on state Second a b f s = (s, f)

first_told : {D : Type 0} (state : D → DiskState) (side : Side) (a b : D) → IsTrue (state a).tells × IsTrue (state b).tells → IsTrue (state (first_of side a b)).tells
first_told state First a b t = t.0
first_told state Second a b t = t.1

second_told : {D : Type 0} (state : D → DiskState) (side : Side) (a b : D) → IsTrue (state a).tells × IsTrue (state b).tells → IsTrue (state (second_of side a b)).tells
second_told state First a b t = t.1
second_told state Second a b t = t.0

-- disks that tell what they told
pub told_before : {D : Type 0} (state : D → DiskState) (old new : PlainPair D) → KeepsDisks state old new → Told state new → Told state old
told_before state old new keeps told =
    told_on state old.side old.active.disk old.standby.disk
    (subst IsTrue keeps.first_tells (first_told state new.side new.active.disk new.standby.disk told))
    (subst IsTrue keeps.second_tells (second_told state new.side new.active.disk new.standby.disk told))

-- ---- what a call that makes records leaves

-- of the heads that the journal has then
pub record HasMade {D : Type 0} (state : D → DiskState) (journal : PlainJournal D) (after : List (List ℕ)) (head next : Head) (result : Result Unit JournalRefused) : Type 0 where
  pub ok : OnOk result (Told state journal.pair → HasHead journal.asked head after × HasHead journal.asked next after)
  pub memory : result ≡ Err Memory → (head ≡ journal.head) × (next ≡ journal.next)
  pub fault : result ≡ Err Fault → (head ≡ journal.head) × (Told state journal.pair → HasHead journal.asked next after)
  pub is_head : IsHead head
  pub is_next : IsHead next

told_made : {D : Type 0} (state : D → DiskState) (journal : PlainJournal D) (pair : PlainPair D) (after : List (List ℕ)) (head next : Head) (result : Result Unit JournalRefused)
    → Makes state journal.pair pair after result → HasMade state journal after head next result → journal.pair.doubt ≡ Nothing
    → Told state journal.pair → IsToldJournal journal
    → IsToldJournal (record { pair = pair; asked = journal.asked; head = head; next = next })
told_made {D = D} state journal pair after head next (Ok done) makes made rests told was = record {
  now = subst (HasHead journal.asked head) (sym (makes.list told)) (made.ok told).0;
  after = λ not_restart. subst (HasHead journal.asked next) (sym (rests_after pair makes.rests ∙ makes.list told)) (made.ok told).1;
}
told_made {D = D} state journal pair after head next (Err Memory) makes made rests told was =
    let room : HasMoreRoom journal.pair pair = makes.memory refl in
    let doubt : pair.doubt ≡ Nothing = ap (λ (p : PlainPair D). p.doubt) room ∙ rests in
    let same : pair.active.payloads ≡ journal.pair.active.payloads = makes.kept told in
    let heads : (head ≡ journal.head) × (next ≡ journal.next) = made.memory refl in
    record {
      now = subst (HasHead journal.asked head) (sym same) (subst (λ h. HasHead journal.asked h journal.pair.active.payloads) (sym heads.0) was.now);
      after = λ not_restart.
          subst (HasHead journal.asked next) (sym (rests_after pair doubt ∙ same ∙ sym (rests_after journal.pair rests)))
          (subst (λ h. HasHead journal.asked h (after_doubt journal.pair)) (sym heads.1) (was.after (λ restart. let e = sym rests ∙ restart in cc)));
    }
told_made {D = D} state journal pair after head next (Err Fault) makes made rests told was =
    let same : pair.active.payloads ≡ journal.pair.active.payloads = makes.kept told in
    let heads : (head ≡ journal.head) × (Told state journal.pair → HasHead journal.asked next after) = made.fault refl in
    record {
      now = subst (HasHead journal.asked head) (sym same) (subst (λ h. HasHead journal.asked h journal.pair.active.payloads) (sym heads.0) was.now);
      after = λ not_restart. subst (HasHead journal.asked next) (sym (makes.undecided refl told not_restart)) (heads.1 told);
    }

pub journal_made : {D : Type 0} (state : D → DiskState) (journal : PlainJournal D) (pair : PlainPair D) (after : List (List ℕ)) (head next : Head) (result : Result Unit JournalRefused)
    → IsJournal state journal → Makes state journal.pair pair after result → HasMade state journal after head next result → journal.pair.doubt ≡ Nothing
    → IsJournal state (record { pair = pair; asked = journal.asked; head = head; next = next })
journal_made state journal pair after head next result is makes made rests = record {
  asked = is.asked;
  head = made.is_head;
  next = made.is_next;
  limit = (makes.limits MOST_BYTES is.limit is.standby_limit).0;
  standby_limit = (makes.limits MOST_BYTES is.limit is.standby_limit).1;
  told = λ told.
      let before = told_before state journal.pair pair makes.disks told in
      told_made state journal pair after head next result makes made rests before (is.told before);
}

-- ---- what a commit did

pub images_of : {D : Type 0} (state : D → DiskState) (journal : PlainJournal D) (before after : Folded) → HasEither state journal.pair
    → (Told state journal.pair → (held journal ≡ before) ⊎ (held journal ≡ after)) → (Told state journal.pair → (held_after journal ≡ before) ⊎ (held_after journal ≡ after))
    → ImagesHold state journal before after
images_of state journal before after has now then told a b left_a left_b =
    by (has told a b left_a left_b)
  where
    moved : (list payloads : List (List ℕ)) → list ≡ payloads → (folded journal.asked payloads ≡ before) ⊎ (folded journal.asked payloads ≡ after)
        → FoldsEither journal.asked before after list
    moved list payloads same (inl e) = inl (ap (folded journal.asked) same ∙ e)
    moved list payloads same (inr e) = inr (ap (folded journal.asked) same ∙ e)

    by : IsEither journal.pair.active.payloads (after_doubt journal.pair) (read_pair a b) → FoldsEither journal.asked before after (read_pair a b)
    by (inl e) = moved (read_pair a b) journal.pair.active.payloads e (now told)
    by (inr e) = moved (read_pair a b) (after_doubt journal.pair) e (then told)

-- what it is for a commit to have these sessions before and after
pub record HasSessions {D : Type 0} (state : D → DiskState) (journal : PlainJournal D) (list : List (List ℕ)) (before after : KeptSessions) : Type 0 where
  pub at_first : Told state journal.pair → held journal ≡ Holds before
  pub later : Told state journal.pair → folded journal.asked list ≡ Holds after
  pub rests : journal.pair.doubt ≡ Nothing

either_list : {D : Type 0} (state : D → DiskState) (journal : PlainJournal D) (list : List (List ℕ)) (before after : KeptSessions) → HasSessions state journal list before after
    → Told state journal.pair → (read : List (List ℕ)) → IsEither journal.pair.active.payloads list read → FoldsEither journal.asked (Holds before) (Holds after) read
either_list state journal list before after has told read (inl e) = inl (ap (folded journal.asked) e ∙ has.at_first told)
either_list state journal list before after has told read (inr e) = inr (ap (folded journal.asked) e ∙ has.later told)

moments_of : {D : Type 0} (state : D → DiskState) (journal : PlainJournal D) (new : PlainPair D) (list : List (List ℕ)) (before after : KeptSessions) → HasSessions state journal list before after
    → EachMoment state journal.pair new (IsEither journal.pair.active.payloads list) → EachMoment state journal.pair new (FoldsEither journal.asked (Holds before) (Holds after))
moments_of state journal new list before after has moments told =
    keeps_weaker (WithinBoth state) (λ images. IsEither journal.pair.active.payloads list (read_pair images.0 images.1)) (λ images. FoldsEither journal.asked (Holds before) (Holds after) (read_pair images.0 images.1))
    journal.pair.past (both_disks journal.pair) new.past (both_disks new)
    (λ images. either_list state journal list before after has told (read_pair images.0 images.1)) (moments told)

pub committed : {D : Type 0} (state : D → DiskState) (old new : PlainJournal D) (list : List (List ℕ)) (before after : KeptSessions) (result : Result Unit JournalRefused)
    → HasSessions state old list before after → Makes state old.pair new.pair list result → new.asked ≡ old.asked
    → (result ≡ Err Memory → new ≡ record old { pair = new.pair })
    → Commits state old new before after result
committed {D = D} state old new list before after (Ok done) has makes asked memory = record {
  holds = now;
  durable = images_of state new (Holds after) (Holds after) makes.images (λ told. inl (now (was told))) (λ told. inl (then (was told)));
  rests = makes.rests;
  memory = λ e. absurd (cc);
  in_doubt = λ e. absurd (cc);
  kept = tt;
  undecided = λ e. absurd (cc);
  lost = λ e. absurd (cc);
  any_moment = moments_of state old new.pair list before after has makes.any_moment;
  images = images_of state new (Holds before) (Holds after) makes.images (λ told. inr (now (was told))) (λ told. inr (then (was told)));
  asked = asked;
  disks = makes.disks;
  cause = makes.cause;
} where
  was : Told state new.pair → Told state old.pair
  was told = told_before state old.pair new.pair makes.disks told

  now : Told state old.pair → held new ≡ Holds after
  now told = ap (λ a. folded a new.pair.active.payloads) asked ∙ ap (folded old.asked) (makes.list told) ∙ has.later told

  then : Told state old.pair → held_after new ≡ Holds after
  then told = ap (folded new.asked) (rests_after new.pair makes.rests) ∙ now told
committed {D = D} state old new list before after (Err Memory) has makes asked memory = record {
  holds = tt;
  durable = tt;
  rests = tt;
  memory = λ e. memory refl ∙ ap (λ (p : PlainPair D). record old { pair = p }) (makes.memory refl);
  in_doubt = λ e. absurd (cc);
  kept = now;
  undecided = λ e. absurd (cc);
  lost = λ e. absurd (cc);
  any_moment = moments_of state old new.pair list before after has makes.any_moment;
  images = images_of state new (Holds before) (Holds after) makes.images (λ told. inl (now (was told))) (λ told. inl (then (was told)));
  asked = asked;
  disks = makes.disks;
  cause = makes.cause;
} where
  was : Told state new.pair → Told state old.pair
  was told = told_before state old.pair new.pair makes.disks told

  now : Told state old.pair → held new ≡ Holds before
  now told = ap (λ a. folded a new.pair.active.payloads) asked ∙ ap (folded old.asked) (makes.kept told) ∙ has.at_first told

  then : Told state old.pair → held_after new ≡ Holds before
  then told = ap (folded new.asked) (rests_after new.pair (ap (λ (p : PlainPair D). p.doubt) (makes.memory refl) ∙ has.rests)) ∙ now told
committed {D = D} state old new list before after (Err Fault) has makes asked memory = record {
  holds = tt;
  durable = tt;
  rests = tt;
  memory = λ e. absurd (cc);
  in_doubt = makes.in_doubt;
  kept = now;
  undecided = λ e told not_restart. open_after told not_restart;
  lost = λ e told restart. lost_after told restart;
  any_moment = moments_of state old new.pair list before after has makes.any_moment;
  images = images_of state new (Holds before) (Holds after) makes.images (λ told. inl (now (was told))) (λ told. by new.pair.doubt refl (was told));
  asked = asked;
  disks = makes.disks;
  cause = makes.cause;
} where
  was : Told state new.pair → Told state old.pair
  was told = told_before state old.pair new.pair makes.disks told

  now : Told state old.pair → held new ≡ Holds before
  now told = ap (λ a. folded a new.pair.active.payloads) asked ∙ ap (folded old.asked) (makes.kept told) ∙ has.at_first told

  open_after : Told state old.pair → (new.pair.doubt ≡ Restart → ⊥) → held_after new ≡ Holds after
  open_after told not_restart = ap (λ a. folded a (after_doubt new.pair)) asked ∙ ap (folded old.asked) (makes.undecided refl told not_restart) ∙ has.later told

  lost_after : Told state old.pair → new.pair.doubt ≡ Restart → held_after new ≡ Holds before
  lost_after told restart =
      ap (λ d. folded new.asked (after_of d new.pair.active.payloads new.pair.active.standing new.pair.standby.standing)) restart ∙ now told

  by : (d : Doubt) → new.pair.doubt ≡ d → Told state old.pair → (held_after new ≡ Holds before) ⊎ (held_after new ≡ Holds after)
  by Restart is told = inl (lost_after told is)
  by Nothing is told = inr (open_after told (λ restart. let e = sym is ∙ restart in cc))
  by Commit is told = inr (open_after told (λ restart. let e = sym is ∙ restart in cc))
  by Rewrite is told = inr (open_after told (λ restart. let e = sym is ∙ restart in cc))
