-- What a journal keeps and holds through a settle, and through calls that leave its records.
use Rattle.std.proofs.Common.{◌≡◌, ℕ, List, inl, inr, Result, Ok, Err, OnErr, refl, sym, ap, subst, ◌∙◌}
use Rattle.outside.specs.Along.{WithinBoth, keeps_weaker}
use Rattle.outside.specs.DiskModel.{DiskState}
use Rattle.gated_log.specs.declared.settled.Settled.{Settled}
use Rattle.gated_log.specs.declared.settled.Settled.TheVariants.{In, Out}
use Rattle.pair_log.specs.Epochs.{read_pair}
use Rattle.pair_log.specs.PlainPair.{EachMoment, HasEither, IsEither, PlainPair, Told, after_doubt, both_disks}
use Rattle.session_journal.specs.declared.asked.Asked.{Asked}
use Rattle.session_journal.specs.declared.head.Head.{Head}
use Rattle.session_journal.specs.declared.limits.TheConstants.{MOST_BYTES}
use Rattle.session_journal.specs.declared.refused.JournalRefused.{JournalRefused}
use Rattle.session_journal.specs.Committed.{EndsDoubt, heads_after}
use Rattle.session_journal.specs.Fold.{FoldsEither, folded}
use Rattle.session_journal.specs.PairCalls.{Settles}
use Rattle.session_journal.specs.PlainJournal.{HasHead, ImagesHold, IsHead, IsJournal, IsToldJournal, PlainJournal, held, held_after}
use Rattle.session_journal.proofs.JournalLemmas.{told_before}
use Rattle.session_journal.proofs.ReadLemmas.{rests_after}

told_settled : {D : Type 0} (state : D → DiskState) (journal : PlainJournal D) (pair : PlainPair D) (result : Result Settled JournalRefused)
    → Settles state journal.pair pair result → Told state journal.pair → IsToldJournal journal
    → IsToldJournal (record { pair = pair; asked = journal.asked; head = (heads_after result journal.head journal.next).0; next = (heads_after result journal.head journal.next).1 })
told_settled state journal pair (Ok In) s told was =
    let has : HasHead journal.asked journal.next pair.active.payloads = subst (HasHead journal.asked journal.next) (sym (s.in_after refl told)) (was.after (s.in_not_lost refl)) in
    record { now = has; after = λ not_restart. subst (HasHead journal.asked journal.next) (sym (rests_after pair s.rests)) has }
told_settled state journal pair (Ok Out) s told was =
    let has : HasHead journal.asked journal.head pair.active.payloads = subst (HasHead journal.asked journal.head) (sym (s.out_before refl)) was.now in
    record { now = has; after = λ not_restart. subst (HasHead journal.asked journal.head) (sym (rests_after pair s.rests)) has }
told_settled state journal pair (Err e) s told was = record {
  now = subst (HasHead journal.asked journal.head) (sym s.stays) was.now;
  after = λ not_restart. subst (HasHead journal.asked journal.next) (sym s.stays_after) (was.after (λ restart. not_restart (s.stays_open ∙ restart)));
}

is_head_after : (result : Result Settled JournalRefused) (head next : Head) → IsHead head → IsHead next
    → IsHead (heads_after result head next).0 × IsHead (heads_after result head next).1
is_head_after (Ok In) head next h n = (n, n)
is_head_after (Ok Out) head next h n = (h, h)
is_head_after (Err e) head next h n = (h, n)

pub journal_settled : {D : Type 0} (state : D → DiskState) (journal : PlainJournal D) (pair : PlainPair D) (result : Result Settled JournalRefused)
    → IsJournal state journal → Settles state journal.pair pair result
    → IsJournal state (record { pair = pair; asked = journal.asked; head = (heads_after result journal.head journal.next).0; next = (heads_after result journal.head journal.next).1 })
journal_settled state journal pair result is s = record {
  asked = is.asked;
  head = (is_head_after result journal.head journal.next is.head is.next).0;
  next = (is_head_after result journal.head journal.next is.head is.next).1;
  limit = (s.limits MOST_BYTES is.limit is.standby_limit).0;
  standby_limit = (s.limits MOST_BYTES is.limit is.standby_limit).1;
  told = λ told.
      let before = told_before state journal.pair pair s.disks told in
      told_settled state journal pair result s before (is.told before);
}

-- what is read is held
pub folds_either : (asked : Asked) (payloads after list : List (List ℕ)) → IsEither payloads after list → FoldsEither asked (folded asked payloads) (folded asked after) list
folds_either asked payloads after list (inl e) = inl (ap (folded asked) e)
folds_either asked payloads after list (inr e) = inr (ap (folded asked) e)

pub still_holds : {D : Type 0} (state : D → DiskState) (journal : PlainJournal D) → HasEither state journal.pair → ImagesHold state journal (held journal) (held_after journal)
still_holds {D = D} state journal has told a b left_a left_b =
    folds_either journal.asked journal.pair.active.payloads (after_doubt journal.pair) (read_pair a b) (has told a b left_a left_b)

pub still_moments : {D : Type 0} (state : D → DiskState) (journal : PlainJournal D) (new : PlainPair D)
    → EachMoment state journal.pair new (IsEither journal.pair.active.payloads (after_doubt journal.pair))
    → EachMoment state journal.pair new (FoldsEither journal.asked (held journal) (held_after journal))
still_moments {D = D} state journal new moments told =
    keeps_weaker (WithinBoth state) (λ images. IsEither journal.pair.active.payloads (after_doubt journal.pair) (read_pair images.0 images.1))
    (λ images. FoldsEither journal.asked (held journal) (held_after journal) (read_pair images.0 images.1))
    journal.pair.past (both_disks journal.pair) new.past (both_disks new)
    (λ images. folds_either journal.asked journal.pair.active.payloads (after_doubt journal.pair) (read_pair images.0 images.1)) (moments told)

pub doubt_ended : {D : Type 0} (state : D → DiskState) (old new : PlainJournal D) (result : Result Settled JournalRefused)
    → Settles state old.pair new.pair result → new.asked ≡ old.asked → EndsDoubt state old new result
doubt_ended {D = D} state old new result s asked = record {
  in_after = λ e told. of_list (s.in_after e told);
  in_not_lost = s.in_not_lost;
  out_before = λ e. of_list (s.out_before e);
  rests = s.rests;
  stays_open = s.stays_open;
  stays = of_err result new.pair.active.payloads old.pair.active.payloads s.stays;
  stays_after = of_err result (after_doubt new.pair) (after_doubt old.pair) s.stays_after;
  first_writes_none = s.first_writes_none;
  second_writes_none = s.second_writes_none;
  any_moment = still_moments state old new.pair s.any_moment;
  images = still_holds state new s.images;
  asked = asked;
  disks = s.disks;
  cause = s.cause;
} where
  of_list : {x y : List (List ℕ)} → x ≡ y → folded new.asked x ≡ folded old.asked y
  of_list {x = x} e = ap (λ a. folded a x) asked ∙ ap (folded old.asked) e

  of_err : (r : Result Settled JournalRefused) (x y : List (List ℕ)) → OnErr r (x ≡ y) → OnErr r (folded new.asked x ≡ folded old.asked y)
  of_err (Ok done) x y e = tt
  of_err (Err refused) x y e = of_list e

-- its records and what is in doubt stay
pub journal_kept : {D : Type 0} (state : D → DiskState) (journal : PlainJournal D) (pair : PlainPair D) → IsJournal state journal
    → pair.active.limit ≡ journal.pair.active.limit → pair.standby.limit ≡ journal.pair.standby.limit
    → pair.active.payloads ≡ journal.pair.active.payloads → after_doubt pair ≡ after_doubt journal.pair → pair.doubt ≡ journal.pair.doubt
    → (Told state pair → Told state journal.pair)
    → IsJournal state (record { pair = pair; asked = journal.asked; head = journal.head; next = journal.next })
journal_kept state journal pair is limit standby_limit payloads after doubt told_then = record {
  asked = is.asked;
  head = is.head;
  next = is.next;
  limit = limit ∙ is.limit;
  standby_limit = standby_limit ∙ is.standby_limit;
  told = λ told. let was = is.told (told_then told) in record {
    now = subst (HasHead journal.asked journal.head) (sym payloads) was.now;
    after = λ not_restart. subst (HasHead journal.asked journal.next) (sym after) (was.after (λ restart. not_restart (doubt ∙ restart)));
  };
}
