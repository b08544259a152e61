-- The generations of a shard, one after the other.
use Rattle.std.proofs.Common.{◌≡◌, ℕ, zero, suc, drop-cons, ◌+◌, ◌<◌, ◌≤◌, true, false, ◌&&◌, ◌==◌, List, [], ◌∷◌, ◌++◌, map, Option, Some, None, Result, Ok, Err, length, drop, slice_index_or, refl, sym, ap, subst, ◌∙◌, arith, append_assoc, eqb-true}
use Rattle.std.specs.Prelude.{is_none, is_some, nat_le, nat_lt}
use Rattle.std.specs.List.{list_all}
use Rattle.std.proofs.lemmas.Bool.{and_parts}
use Rattle.std.proofs.lemmas.Bool.Decides.{nat_tests}
use Rattle.std.proofs.lemmas.List.{append-nil, map-append}
use Rattle.outside.specs.DiskModel.{DiskState}
use Rattle.gated_log.specs.PlainLog.{end_of}
use Rattle.topic_model.specs.Limits.{lies_between}
use Rattle.topic_name.specs.declared.descriptor.Descriptor.{Descriptor}
use Rattle.topic_name.specs.declared.mounting.What.{What}
use Rattle.shard_model.specs.ShardList.{Cut, ShardList, newest, newest_of}
use Rattle.shard_index.specs.Absorbing.{sealed_last}
use Rattle.shard_index.specs.KeptIndex.{KeptIndex, cut_of, list_of}
use Rattle.shard_fold.specs.declared.unread.Where.{Where}
use Rattle.shard_fold.specs.Fold.{Folded, Holds, IsDamaged, HasAnother, all_told, are_in_row, are_sound_cuts, generation_told, goes_before, have_own_slots, is_known_cut, later_all_told, later_told, opened, opened_behind, unsealed}
use Rattle.shard_fold.specs.declared.limits.TheConstants.{MOST_SLOT}
use Rattle.shard_fold.specs.declared.unread.Where.TheVariants.{Slot}
use Rattle.shard_fold.specs.Potential.{potential}
use Rattle.shard_fold.specs.FoldLaws.{newest_slot}
use Rattle.shard_fold.specs.OpeningLaws.{pushed_newest}
use Rattle.shard_disks.specs.Calls.{IsRead, Told}
use Rattle.shard_disks.specs.Images.{faults_of}
use Rattle.shard_disks.specs.Outline.{Outline, slot_in}
use Rattle.shard_disks.specs.PlainDisks.{PlainDisks, all_disks, outline}
use Rattle.shard_reading.specs.declared.unread.Unread.{Unread}
use Rattle.shard_reading.specs.declared.unread.Unread.TheVariants as unread
use Rattle.shard_reading.specs.Giving.{IsWhy}
use Rattle.shard_reading.specs.Steps.{IsReached, Looks, ReadsIndex, records_in}
use Rattle.shard_reading.proofs.LookLemmas.{blamed_then, read_and, told_then}

-- ---- a refusal stays, whatever generations come behind it

damaged_stays : (records : ℕ → List (List ℕ)) (log : Where) (place : ℕ) (before : Descriptor) (cuts : List Descriptor) → later_all_told records before (IsDamaged log place) cuts ≡ IsDamaged log place
damaged_stays records log place before [] = refl
damaged_stays records log place before (cut ∷ cuts) = damaged_stays records log place cut cuts

another_stays : (records : ℕ → List (List ℕ)) (what : What) (kept asked : ℕ) (before : Descriptor) (cuts : List Descriptor)
    → later_all_told records before (HasAnother what kept asked) cuts ≡ HasAnother what kept asked
another_stays records what kept asked before [] = refl
another_stays records what kept asked before (cut ∷ cuts) = another_stays records what kept asked cut cuts

pub why_stays : (why : Unread) (records : ℕ → List (List ℕ)) (before : Descriptor) (so_far : Folded ShardList) (cuts : List Descriptor) → IsWhy why so_far
    → IsWhy why (later_all_told records before so_far cuts)
why_stays (unread.Damaged log place) records before so_far cuts e = ap (λ f. later_all_told records before f cuts) e ∙ damaged_stays records log place before cuts
why_stays (unread.Another what kept asked) records before so_far cuts e =
    ap (λ f. later_all_told records before f cuts) e ∙ another_stays records what kept asked before cuts
why_stays (unread.Fault disk) records before so_far cuts e = tt
why_stays unread.Memory records before so_far cuts e = tt

-- ---- sealed and not

-- with the last one sealed so
abbrev pub sealed_as : Option ℕ → List Descriptor → List Descriptor
sealed_as moment [] = []
sealed_as moment (cut ∷ []) = record cut { sealed = moment } ∷ []
sealed_as moment (cut ∷ other ∷ cuts) = cut ∷ sealed_as moment (other ∷ cuts)

sealed_then : (moment : ℕ) (cuts : List Descriptor) → sealed_last moment cuts ≡ sealed_as (Some moment) cuts
sealed_then moment [] = refl
sealed_then moment (cut ∷ []) = refl
sealed_then moment (cut ∷ other ∷ cuts) = ap (λ l. cut ∷ l) (sealed_then moment (other ∷ cuts))

sealed_push : (moment : Option ℕ) (cuts : List Descriptor) (cut : Descriptor) → sealed_as moment (cuts ++ cut ∷ []) ≡ cuts ++ record cut { sealed = moment } ∷ []
sealed_push moment [] cut = refl
sealed_push moment (c ∷ []) cut = refl
sealed_push moment (c ∷ d ∷ cuts) cut = ap (λ l. c ∷ l) (sealed_push moment (d ∷ cuts) cut)

pushed_number : (cuts : List Descriptor) (cut : Descriptor) → (newest_of (map cut_of (cuts ++ cut ∷ []))).number ≡ cut.number
pushed_number cuts cut = ap (λ (l : List Cut). (newest_of l).number) (map-append cut_of cuts (cut ∷ [])) ∙ ap (λ (c : Cut). c.number) (pushed_newest (map cut_of cuts) (cut_of cut))

-- ---- numbers of a generation

pub slot_known : (cut : Descriptor) → is_known_cut cut ≡ true → cut.slot < 8
slot_known cut known =
    let p = and_parts (nat_lt cut.slot 8) (lies_between 1 1000 cut.top && (lies_between 1 1000 cut.below && lies_between 1 32768 cut.messages)) known in
    grind (arith, nat_tests, p.0)

pub messages_known : (cut : Descriptor) → is_known_cut cut ≡ true → cut.messages ≤ 32768
messages_known cut known =
    let p = and_parts (nat_lt cut.slot 8) (lies_between 1 1000 cut.top && (lies_between 1 1000 cut.below && lies_between 1 32768 cut.messages)) known in
    let q = and_parts (lies_between 1 1000 cut.top) (lies_between 1 1000 cut.below && lies_between 1 32768 cut.messages) p.1 in
    let r = and_parts (lies_between 1 1000 cut.below) (lies_between 1 32768 cut.messages) q.1 in
    let s = and_parts (nat_le 1 cut.messages) (nat_le cut.messages 32768) r.1 in
    grind (arith, nat_tests, s.1)

pub newest_known : (cuts : List Descriptor) → list_all is_known_cut cuts ≡ true → newest_slot cuts < 8
newest_known [] known = omega arith
newest_known (cut ∷ []) known = slot_known cut (and_parts (is_known_cut cut) true known).0
newest_known (cut ∷ next ∷ cuts) known = newest_known (next ∷ cuts) (and_parts (is_known_cut cut) (list_all is_known_cut (next ∷ cuts)) known).1

pub sound_parts : (cuts : List Descriptor) → are_sound_cuts cuts ≡ true → (list_all is_known_cut cuts ≡ true) × (are_in_row cuts ≡ true)
sound_parts cuts sound =
    let p = and_parts (list_all is_known_cut cuts) (are_in_row cuts && have_own_slots cuts) sound in
    (p.0, (and_parts (are_in_row cuts) (have_own_slots cuts) p.1).0)

-- what is known of one and the next
record IsBefore (cut next : Descriptor) : Type 0 where
  number : next.number ≡ cut.number + 1
  sealed : is_some cut.sealed ≡ true

row_parts : (cut next : Descriptor) (cuts : List Descriptor) → are_in_row (cut ∷ next ∷ cuts) ≡ true → IsBefore cut next × (are_in_row (next ∷ cuts) ≡ true)
row_parts cut next cuts row =
    let p = and_parts (goes_before cut next) (are_in_row (next ∷ cuts)) row in
    let q = and_parts (next.number == cut.number + 1) (nat_le cut.first next.first && is_some cut.sealed) p.0 in
    (record { number = eqb-true next.number (cut.number + 1) q.0; sealed = (and_parts (nat_le cut.first next.first) (is_some cut.sealed) q.1).1 }, p.1)

pub one_sealed : (cut next : Descriptor) (cuts : List Descriptor) → are_in_row (cut ∷ next ∷ cuts) ≡ true → cut.sealed ≡ None → ⊥
one_sealed cut next cuts row none = let e = (row_parts cut next cuts row).0.sealed in let f : is_some cut.sealed ≡ false = ap is_some none in cc

none_sealed : (moment : Option ℕ) → is_none moment ≡ true → moment ≡ None
none_sealed None e = refl
none_sealed (Some m) e = absurd cc

-- ---- all generations

-- Those up to one of them were read, and these are left.
pub record IsThrough {D : Type 0} (state : D → DiskState) (old now : PlainDisks D) (cuts : List Descriptor) (previous : Descriptor) (left : List Descriptor) (index : KeptIndex) (end : ℕ) : Type 0 where
  pub read : IsRead state old now
  pub faults : faults_of state (all_disks now) ≡ faults_of state (all_disks old)
  pub folds :
      Told state old → all_told (records_in (outline old)) cuts ≡ later_all_told (records_in (outline old)) previous (Holds (list_of index)) left
  pub reached : IsReached state old previous.slot index end
  pub whole : sealed_as previous.sealed index.cuts ++ left ≡ cuts
  pub number : (newest (list_of index)).number ≡ previous.number
  pub open_last : sealed_as None index.cuts ≡ index.cuts
  pub known : list_all is_known_cut left ≡ true
  pub row : are_in_row (previous ∷ left) ≡ true
  pub slot : newest_slot cuts ≡ newest_slot (previous ∷ left)

pub through_first : {D : Type 0} (state : D → DiskState) (old now : PlainDisks D) (oldest : Descriptor) (later : List Descriptor) (found : KeptIndex × ℕ)
    → list_all is_known_cut (oldest ∷ later) ≡ true → are_in_row (oldest ∷ later) ≡ true → Looks {X = KeptIndex × ℕ} state old now (Ok found)
    → (Told state old → generation_told (opened oldest.slot oldest) oldest.slot (records_in (outline old) oldest.slot) ≡ Holds (list_of found.0))
    → IsReached state old oldest.slot found.0 found.1 → found.0.cuts ≡ unsealed oldest ∷ []
    → IsThrough state old now (oldest ∷ later) oldest later found.0 found.1
through_first state old now oldest later found known row looks holds reached cuts = record {
  read = looks.read;
  faults = looks.cause;
  folds = λ told. ap (λ f. later_all_told (records_in (outline old)) oldest f later) (holds told);
  reached = reached;
  whole = ap (λ l. sealed_as oldest.sealed l ++ later) cuts;
  number = ap (λ (l : List Descriptor). (newest_of (map cut_of l)).number) cuts;
  open_last = ap (sealed_as None) cuts ∙ sym cuts;
  known = (and_parts (is_known_cut oldest) (list_all is_known_cut later) known).1;
  row = row;
  slot = refl;
}

abbrev pub no_generation : Descriptor
no_generation = record { number = 0; slot = 0; first = 0; top = 0; below = 0; messages = 0; sealed = None }

first_left : (cuts : List Descriptor) (n : ℕ) → n < length cuts → drop n cuts ≡ slice_index_or cuts n no_generation ∷ drop (n + 1) cuts
first_left cuts n within =
    let next : suc n ≡ n + 1 = omega arith in
    drop-cons cuts n no_generation within ∙ ap (λ k. slice_index_or cuts n no_generation ∷ drop k cuts) next

-- the next one is the first of those that are left
pub at_next : {D : Type 0} (state : D → DiskState) (old now : PlainDisks D) (cuts : List Descriptor) (previous : Descriptor) (later : List Descriptor) (n : ℕ) (index : KeptIndex) (end : ℕ)
    → IsThrough state old now cuts previous (drop n later) index end → n < length later
    → IsThrough state old now cuts previous (slice_index_or later n no_generation ∷ drop (n + 1) later) index end
at_next state old now cuts previous later n index end was within = subst (λ l. IsThrough state old now cuts previous l index end) (first_left later n within) was

-- one more
pub through_more : {D : Type 0} (state : D → DiskState) (old mid new : PlainDisks D) (cuts : List Descriptor) (previous cut : Descriptor) (left : List Descriptor) (index after : KeptIndex) (at end sealed : ℕ)
    → IsThrough state old mid cuts previous (cut ∷ left) index at → previous.sealed ≡ Some sealed → Looks {X = ℕ} state mid new (Ok end)
    → (Told state mid → generation_told (opened_behind cut.slot (list_of index) (Some sealed) cut) cut.slot (records_in (outline mid) cut.slot) ≡ Holds (list_of after))
    → IsReached state mid cut.slot after end → after.cuts ≡ sealed_last sealed index.cuts ++ unsealed cut ∷ []
    → IsThrough state old new cuts cut left after end
through_more {D = D} state old mid new cuts previous cut left index after at end sealed was is looks holds reached goes = record {
  read = read_and state old mid new was.read looks.read;
  faults = looks.cause ∙ was.faults;
  folds = λ told. was.folds told ∙ ap (λ f. later_all_told (records_in (outline old)) cut f left) (one told);
  reached = record {
    some = subst (λ (o : Outline). 0 < length (records_in o cut.slot)) was.read.stays reached.some;
    ends = λ told. reached.ends (told_then state old mid was.read told) ∙ ap (λ (o : Outline). end_of (records_in o cut.slot)) was.read.stays;
    room = reached.room;
    few = reached.few;
  };
  whole = ap (λ l. sealed_as cut.sealed l ++ left) goes ∙ ap (λ l. l ++ left) (sealed_push cut.sealed (sealed_last sealed index.cuts) (unsealed cut))
      ∙ append_assoc (sealed_last sealed index.cuts) (cut ∷ []) left ∙ ap (λ l. l ++ cut ∷ left) (sealed_then sealed index.cuts)
      ∙ ap (λ s. sealed_as s index.cuts ++ cut ∷ left) (sym is) ∙ was.whole;
  number = ap (λ (l : List Descriptor). (newest_of (map cut_of l)).number) goes ∙ pushed_number (sealed_last sealed index.cuts) (unsealed cut);
  open_last = ap (sealed_as None) goes ∙ sealed_push None (sealed_last sealed index.cuts) (unsealed cut) ∙ sym goes;
  known = (and_parts (is_known_cut cut) (list_all is_known_cut left) was.known).1;
  row = (row_parts previous cut left was.row).1;
  slot = was.slot;
} where
  same : records_in (outline mid) cut.slot ≡ records_in (outline old) cut.slot
  same = ap (λ (o : Outline). records_in o cut.slot) was.read.stays

  one : Told state old → later_told (records_in (outline old)) previous cut (list_of index) ≡ Holds (list_of after)
  one told =
      ap (λ s. generation_told (opened_behind cut.slot (list_of index) s cut) cut.slot (records_in (outline old) cut.slot)) is
      ∙ ap (generation_told (opened_behind cut.slot (list_of index) (Some sealed) cut) cut.slot) (sym same)
      ∙ holds (told_then state old mid was.read told)

-- one was refused
pub through_refused : {D : Type 0} (state : D → DiskState) (old mid : PlainDisks D) (cuts : List Descriptor) (previous cut : Descriptor) (left : List Descriptor) (index : KeptIndex) (at sealed : ℕ) (why : Unread)
    → IsThrough state old mid cuts previous (cut ∷ left) index at → previous.sealed ≡ Some sealed
    → (Told state mid → IsWhy why (generation_told (opened_behind cut.slot (list_of index) (Some sealed) cut) cut.slot (records_in (outline mid) cut.slot)))
    → Told state old → IsWhy why (all_told (records_in (outline old)) cuts)
through_refused state old mid cuts previous cut left index at sealed why was is refuses told =
    let same : records_in (outline mid) cut.slot ≡ records_in (outline old) cut.slot = ap (λ (o : Outline). records_in o cut.slot) was.read.stays in
    let one : generation_told (opened_behind cut.slot (list_of index) (Some sealed) cut) cut.slot (records_in (outline mid) cut.slot) ≡ later_told (records_in (outline old)) previous cut (list_of index) =
    ap (generation_told (opened_behind cut.slot (list_of index) (Some sealed) cut) cut.slot) same
    ∙ ap (λ s. generation_told (opened_behind cut.slot (list_of index) s cut) cut.slot (records_in (outline old) cut.slot)) (sym is) in
    subst (IsWhy why) (sym (was.folds told))
    (why_stays why (records_in (outline old)) cut (later_told (records_in (outline old)) previous cut (list_of index)) left
    (subst (IsWhy why) one (refuses (told_then state old mid was.read told))))

pub through_looks : {D X : Type 0} (state : D → DiskState) (old mid new : PlainDisks D) (cuts : List Descriptor) (previous : Descriptor) (left : List Descriptor) (index : KeptIndex) (at : ℕ) (result : Result X Unread)
    → IsThrough state old mid cuts previous left index at → Looks state mid new result → Looks state old new result
through_looks state old mid new cuts previous left index at result was looks = record {
  read = read_and state old mid new was.read looks.read;
  cause = blamed_then (faults_of state (all_disks old)) (faults_of state (all_disks mid)) (faults_of state (all_disks new)) result was.faults looks.cause;
}

-- what the next one asks for
pub record IsNext (previous cut : Descriptor) (index : KeptIndex) : Type 0 where
  pub known : is_known_cut cut ≡ true
  pub number : cut.number ≡ (newest (list_of index)).number + 1

pub is_next : {D : Type 0} (state : D → DiskState) (old mid : PlainDisks D) (cuts : List Descriptor) (previous cut : Descriptor) (left : List Descriptor) (index : KeptIndex) (at : ℕ)
    → IsThrough state old mid cuts previous (cut ∷ left) index at → IsNext previous cut index
is_next state old mid cuts previous cut left index at was = record {
  known = (and_parts (is_known_cut cut) (list_all is_known_cut left) was.known).0;
  number = (row_parts previous cut left was.row).0.number ∙ ap (λ n. n + 1) (sym was.number);
}

-- all were read
pub through_all : {D : Type 0} (state : D → DiskState) (old now : PlainDisks D) (cuts : List Descriptor) (previous : Descriptor) (left : List Descriptor) (index : KeptIndex) (end : ℕ)
    → IsThrough state old now cuts previous left index end → left ≡ []
    → (Told state old → all_told (records_in (outline old)) cuts ≡ Holds (list_of index)) × IsReached state old (newest_slot cuts) index end × (index.cuts ≡ cuts)
through_all state old now cuts previous left index end was none =
    let last : previous.sealed ≡ None = none_sealed previous.sealed (subst (λ l. are_in_row (previous ∷ l) ≡ true) none was.row) in
    let slot : newest_slot cuts ≡ previous.slot = was.slot ∙ ap (λ l. newest_slot (previous ∷ l)) none in (
      λ told. was.folds told ∙ ap (later_all_told (records_in (outline old)) previous (Holds (list_of index))) none,
      subst (λ n. IsReached state old n index end) (sym slot) was.reached,
      sym was.open_last ∙ ap (λ s. sealed_as s index.cuts) (sym last) ∙ sym (append-nil (sealed_as previous.sealed index.cuts)) ∙ ap (λ l. sealed_as previous.sealed index.cuts ++ l) (sym none) ∙ was.whole,
    )

-- ---- the newest one

pub newest_at : (cuts : List Descriptor) (n : ℕ) (none : Descriptor) → n + 1 ≡ length cuts → (slice_index_or cuts n none).slot ≡ newest_slot cuts
newest_at [] n none e = absurd (omega (arith, e))
newest_at (cut ∷ []) zero none e = refl
newest_at (cut ∷ []) (suc n) none e = absurd (omega (arith, e))
newest_at (cut ∷ next ∷ cuts) zero none e = absurd (omega (arith, e))
newest_at (cut ∷ next ∷ cuts) (suc n) none e = newest_at (next ∷ cuts) n none (omega (arith, e))

-- The records of the newest one end where its slot does, or elsewhere; where the disks tell they can't.
module _ {D : Type 0} (state : D → DiskState) (cuts : List Descriptor) (old new : PlainDisks D) (found : KeptIndex × ℕ) (slot end : ℕ) (is : slot ≡ newest_slot cuts)
    (looks : Looks {X = KeptIndex × ℕ} state old new (Ok found)) (reached : IsReached state old (newest_slot cuts) found.0 found.1) (ends : end ≡ (slot_in (outline new) slot).end) where
  old_end : (slot_in (outline new) slot).end ≡ (slot_in (outline old) (newest_slot cuts)).end
  old_end = ap (λ (o : Outline). (slot_in o slot).end) looks.read.stays ∙ ap (λ n. (slot_in (outline old) n).end) is

  pub index_elsewhere : (Told state new → (slot_in (outline new) slot).end ≡ end_of (records_in (outline new) slot)) → (found.1 ≡ end → ⊥)
      → ReadsIndex state cuts old new (Err (unread.Damaged (Slot slot) found.1))
  index_elsewhere behind differs = record {
    exact = λ told.
        absurd (differs
        (reached.ends told ∙ ap (λ n. end_of (records_in (outline old) n)) (sym is) ∙ ap (λ (o : Outline). end_of (records_in o slot)) (sym looks.read.stays)
        ∙ sym (behind (told_then state old new looks.read told)) ∙ sym ends));
    same_cuts = tt;
    some = tt;
    room = tt;
    looks = record { read = looks.read; cause = looks.cause };
  }

  pub index_read : found.1 ≡ end → (Told state old → all_told (records_in (outline old)) cuts ≡ Holds (list_of found.0)) → found.0.cuts ≡ cuts → ReadsIndex state cuts old new (Ok found.0)
  index_read same holds whole = record {
    exact = holds;
    same_cuts = whole;
    some = reached.some;
    room = subst (λ n. n + potential (list_of found.0) ≤ MOST_SLOT) (same ∙ ends ∙ old_end) reached.room;
    looks = record { read = looks.read; cause = looks.cause };
  }
