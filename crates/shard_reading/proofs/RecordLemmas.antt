-- The records of one slot, one after the other.
use Rattle.std.proofs.Common.{◌≡◌, ℕ, suc, ◌+◌, ◌<◌, ◌≤◌, List, [], ◌∷◌, Option, Result, Ok, length, drop, slice_index_or, refl, sym, ap, subst, ◌∙◌, arith, drop-cons}
use Rattle.std.proofs.Math.ListN.{drop_of_length-le}
use Rattle.outside.specs.DiskModel.{DiskState}
use Rattle.gated_log.specs.PlainLog.{end_of}
use Rattle.shard_model.specs.ShardList.{ShardList}
use Rattle.shard_index.specs.KeptIndex.{KeptIndex, list_of}
use Rattle.record_codec.specs.Records.{KeptOpening}
use Rattle.record_codec.specs.Reading.{group_in, opening_in}
use Rattle.shard_fold.specs.declared.limits.TheConstants.{MOST_AWAITED, MOST_SLOT}
use Rattle.shard_fold.specs.declared.unread.Unread as fold
use Rattle.shard_fold.specs.declared.unread.Unread.TheVariants as told
use Rattle.shard_fold.specs.declared.unread.Where.{Where}
use Rattle.shard_fold.specs.declared.unread.Where.TheVariants.{Slot}
use Rattle.topic_name.specs.declared.mounting.What.{What}
use Rattle.shard_fold.specs.Fold.{Folded, Holds, IsDamaged, HasAnother, generation_told, with_group, with_record, with_records}
use Rattle.shard_fold.specs.Giving as give
use Rattle.shard_fold.specs.Potential.{potential}
use Rattle.shard_disks.specs.Calls.{IsRead, Told}
use Rattle.shard_disks.specs.Images.{AllRead, faults_of}
use Rattle.shard_disks.specs.Outline.{Outline, reads_of}
use Rattle.shard_disks.specs.PlainDisks.{PlainDisks, all_disks, outline}
use Rattle.shard_reading.specs.declared.unread.Unread.{Unread}
use Rattle.shard_reading.specs.declared.unread.Unread.TheVariants as unread
use Rattle.shard_reading.specs.Giving.{IsCause, IsWhy, refusal_of}
use Rattle.shard_reading.specs.Steps.{IsOutside, IsReached, Looks, records_in}
use Rattle.shard_reading.proofs.LookLemmas.{blamed_then, read_and, read_none, told_then}

-- ---- reasons

-- a refusal comes over
pub refused : {A : Type 0} (why : fold.Unread) (held : Folded A) → give.IsWhy why held → IsWhy (refusal_of why) held
refused (told.Damaged log place) held e = e
refused (told.Another what kept asked) held e = e
refused told.Memory held e = tt

pub inside : (why : fold.Unread) (before now : List ℕ) → now ≡ before → IsCause (refusal_of why) before now
inside (told.Damaged log place) before now e = e
inside (told.Another what kept asked) before now e = e
inside told.Memory before now e = e

pub outside_is : {A : Type 0} (why : Unread) (held : Folded A) → IsOutside why → IsWhy why held
outside_is (unread.Damaged log place) held out = absurd out
outside_is (unread.Another what kept asked) held out = absurd out
outside_is (unread.Fault disk) held out = tt
outside_is unread.Memory held out = tt

-- a refusal stays, whatever comes behind it
damaged_stays : (slot place : ℕ) (log : Where) (at : ℕ) (payloads : List (List ℕ)) → with_records slot place (IsDamaged log at) payloads ≡ IsDamaged log at
damaged_stays slot place log at [] = refl
damaged_stays slot place log at (p ∷ payloads) = damaged_stays slot (place + (5 + length p)) log at payloads

another_stays : (slot place : ℕ) (what : What) (kept asked : ℕ) (payloads : List (List ℕ)) → with_records slot place (HasAnother what kept asked) payloads ≡ HasAnother what kept asked
another_stays slot place what kept asked [] = refl
another_stays slot place what kept asked (p ∷ payloads) = another_stays slot (place + (5 + length p)) what kept asked payloads

pub why_stays : (why : Unread) (slot place : ℕ) (so_far : Folded ShardList) (payloads : List (List ℕ)) → IsWhy why so_far → IsWhy why (with_records slot place so_far payloads)
why_stays (unread.Damaged log at) slot place so_far payloads e = ap (λ f. with_records slot place f payloads) e ∙ damaged_stays slot place log at payloads
why_stays (unread.Another what kept asked) slot place so_far payloads e =
    ap (λ f. with_records slot place f payloads) e ∙ another_stays slot place what kept asked payloads
why_stays (unread.Fault disk) slot place so_far payloads e = tt
why_stays unread.Memory slot place so_far payloads e = tt

-- ---- one record

pub record_taken : (slot place : ℕ) (bytes payload : List ℕ) (list after : ShardList) → bytes ≡ payload → with_group slot place list (group_in bytes) ≡ Holds after
    → with_record slot place payload (Holds list) ≡ Holds after
record_taken slot place bytes payload list after same holds = subst (λ b. with_group slot place list (group_in b) ≡ Holds after) same holds

pub record_refused : (slot place : ℕ) (bytes payload : List ℕ) (list : ShardList) (why : fold.Unread) → bytes ≡ payload → give.IsWhy why (with_group slot place list (group_in bytes))
    → IsWhy (refusal_of why) (with_record slot place payload (Holds list))
record_refused slot place bytes payload list why same is =
    refused why (with_record slot place payload (Holds list)) (subst (λ b. give.IsWhy why (with_group slot place list (group_in b))) same is)

-- ---- all of a slot

-- so many were read, and the next one has its gate at a place
pub record IsTaken {D : Type 0} (state : D → DiskState) (old now : PlainDisks D) (slot place : ℕ) (before index : KeptIndex) (number at : ℕ) : Type 0 where
  pub read : IsRead state old now
  pub faults : faults_of state (all_disks now) ≡ faults_of state (all_disks old)
  pub folds :
      Told state old →
      with_records slot place (Holds (list_of before)) (drop 1 (records_in (outline old) slot))
      ≡ with_records slot at (Holds (list_of index)) (drop number (records_in (outline old) slot))
  pub places :
      Told state old → at + end_of (drop number (records_in (outline old) slot)) ≡ place + end_of (drop 1 (records_in (outline old) slot))
  pub room : at + potential (list_of index) ≤ MOST_SLOT
  pub cuts : index.cuts ≡ before.cuts
  pub few : length index.awaited ≤ MOST_AWAITED

pub none_taken : {D : Type 0} (state : D → DiskState) (d : PlainDisks D) (slot place : ℕ) (index : KeptIndex)
    → (Told state d → AllRead state (all_disks d) (λ reads. reads ≡ reads_of (outline d))) → place + potential (list_of index) ≤ MOST_SLOT → length index.awaited ≤ MOST_AWAITED
    → IsTaken state d d slot place index index 1 place
none_taken state d slot place index images room few =
    record { read = read_none state d images; faults = refl; folds = λ told. refl; places = λ told. refl; room = room; cuts = refl; few = few }

first_left : (payloads : List (List ℕ)) (number : ℕ) → number < length payloads → drop number payloads ≡ slice_index_or payloads number [] ∷ drop (number + 1) payloads
first_left payloads number within =
    let next : suc number ≡ number + 1 = omega arith in
    drop-cons payloads number [] within ∙ ap (λ n. slice_index_or payloads number [] ∷ drop n payloads) next

-- one more
pub taken_more : {D : Type 0} (state : D → DiskState) (old mid new : PlainDisks D) (slot place : ℕ) (before index after : KeptIndex) (number at next : ℕ)
    → IsTaken state old mid slot place before index number at → number < length (records_in (outline old) slot) → Looks {X = ℕ} state mid new (Ok next)
    → (Told state mid → with_record slot at (slice_index_or (records_in (outline mid) slot) number []) (Holds (list_of index)) ≡ Holds (list_of after))
    → (Told state mid → next ≡ at + (5 + length (slice_index_or (records_in (outline mid) slot) number [])))
    → next + potential (list_of after) ≤ MOST_SLOT → after.cuts ≡ index.cuts → length after.awaited ≤ MOST_AWAITED
    → IsTaken state old new slot place before after (number + 1) next
taken_more {D = D} state old mid new slot place before index after number at next was within looks changes goes room cuts few = record {
  read = read_and state old mid new was.read looks.read;
  faults = looks.cause ∙ was.faults;
  folds = λ told.
      was.folds told ∙ ap (with_records slot at (Holds (list_of index))) left
      ∙ ap (λ f. with_records slot (at + (5 + length one)) f (drop (number + 1) all)) (changed told)
      ∙ ap (λ n. with_records slot n (Holds (list_of after)) (drop (number + 1) all)) (sym (place_is told));
  places = λ told. ap (λ n. n + end_of (drop (number + 1) all)) (place_is told) ∙ rest ∙ was.places told;
  room = room;
  cuts = cuts ∙ was.cuts;
  few = few;
} where
  all : List (List ℕ)
  all = records_in (outline old) slot

  same : records_in (outline mid) slot ≡ all
  same = ap (λ (o : Outline). records_in o slot) was.read.stays

  one : List ℕ
  one = slice_index_or all number []

  left : drop number all ≡ one ∷ drop (number + 1) all
  left = first_left all number within

  changed : Told state old → with_record slot at one (Holds (list_of index)) ≡ Holds (list_of after)
  changed told =
      subst (λ l. with_record slot at (slice_index_or l number []) (Holds (list_of index)) ≡ Holds (list_of after)) same (changes (told_then state old mid was.read told))

  place_is : Told state old → next ≡ at + (5 + length one)
  place_is told = subst (λ l. next ≡ at + (5 + length (slice_index_or l number []))) same (goes (told_then state old mid was.read told))

  rest : at + (5 + length one) + end_of (drop (number + 1) all) ≡ at + end_of (drop number all)
  rest = let e : end_of (drop number all) ≡ (5 + length one) + end_of (drop (number + 1) all) = ap end_of left in omega arith

-- one was refused
pub one_refused : {D : Type 0} (state : D → DiskState) (old mid : PlainDisks D) (slot place : ℕ) (before index : KeptIndex) (number at : ℕ) (why : Unread)
    → IsTaken state old mid slot place before index number at → number < length (records_in (outline old) slot)
    → (Told state mid → IsWhy why (with_record slot at (slice_index_or (records_in (outline mid) slot) number []) (Holds (list_of index))))
    → Told state old → IsWhy why (with_records slot place (Holds (list_of before)) (drop 1 (records_in (outline old) slot)))
one_refused {D = D} state old mid slot place before index number at why was within refuses told =
    let all : List (List ℕ) = records_in (outline old) slot in
    let same : records_in (outline mid) slot ≡ all = ap (λ (o : Outline). records_in o slot) was.read.stays in
    let one : List ℕ = slice_index_or all number [] in
    subst (IsWhy why) (sym (was.folds told ∙ ap (with_records slot at (Holds (list_of index))) (first_left all number within)))
    (why_stays why slot (at + (5 + length one)) (with_record slot at one (Holds (list_of index))) (drop (number + 1) all)
    (subst (λ l. IsWhy why (with_record slot at (slice_index_or l number []) (Holds (list_of index)))) same (refuses (told_then state old mid was.read told))))

pub taken_looks : {D X : Type 0} (state : D → DiskState) (old mid new : PlainDisks D) (slot place : ℕ) (before index : KeptIndex) (number at : ℕ) (result : Result X Unread)
    → IsTaken state old mid slot place before index number at → Looks state mid new result → Looks state old new result
taken_looks state old mid new slot place before index number at result was looks = record {
  read = read_and state old mid new was.read looks.read;
  cause = blamed_then (faults_of state (all_disks old)) (faults_of state (all_disks mid)) (faults_of state (all_disks new)) result was.faults looks.cause;
}

-- all were read
pub all_taken : {D : Type 0} (state : D → DiskState) (old now : PlainDisks D) (slot place : ℕ) (before index : KeptIndex) (number at : ℕ)
    → IsTaken state old now slot place before index number at → length (records_in (outline old) slot) ≤ number
    → Told state old → with_records slot place (Holds (list_of before)) (drop 1 (records_in (outline old) slot)) ≡ Holds (list_of index)
all_taken state old now slot place before index number at was all told =
    was.folds told ∙ ap (with_records slot at (Holds (list_of index))) (drop_of_length-le (records_in (outline old) slot) all)

pub all_places : {D : Type 0} (state : D → DiskState) (old now : PlainDisks D) (slot place : ℕ) (before index : KeptIndex) (number at : ℕ)
    → IsTaken state old now slot place before index number at → length (records_in (outline old) slot) ≤ number
    → Told state old → at ≡ place + end_of (drop 1 (records_in (outline old) slot))
all_places state old now slot place before index number at was all told =
    let e : end_of (drop number (records_in (outline old) slot)) ≡ 0 = ap end_of (drop_of_length-le (records_in (outline old) slot) all) in
    let p : at + end_of (drop number (records_in (outline old) slot)) ≡ place + end_of (drop 1 (records_in (outline old) slot)) = was.places told in
    omega arith

-- ---- a generation

pub missing : (by : Option KeptOpening → Folded ShardList) (slot : ℕ) (payloads : List (List ℕ)) → length payloads ≡ 0 → generation_told by slot payloads ≡ IsDamaged (Slot slot) 0
missing by slot [] none = refl
missing by slot (p ∷ payloads) none = absurd (omega (arith, none))

-- its opening, and what comes behind it
pub generation_is : (by : Option KeptOpening → Folded ShardList) (slot : ℕ) (bytes : List ℕ) (payloads : List (List ℕ)) → 0 < length payloads → bytes ≡ slice_index_or payloads 0 []
    → generation_told by slot payloads ≡ with_records slot (5 + length bytes) (by (opening_in bytes)) (drop 1 payloads)
generation_is by slot bytes [] some is = absurd (omega (arith, some))
generation_is by slot bytes (p ∷ payloads) some is = ap (λ b. with_records slot (5 + length b) (by (opening_in b)) payloads) (sym is)

pub opening_refused : (by : Option KeptOpening → Folded ShardList) (slot : ℕ) (bytes : List ℕ) (payloads : List (List ℕ)) (why : fold.Unread) → 0 < length payloads → bytes ≡ slice_index_or payloads 0 []
    → give.IsWhy why (by (opening_in bytes)) → IsWhy (refusal_of why) (generation_told by slot payloads)
opening_refused by slot bytes payloads why some is held =
    subst (IsWhy (refusal_of why)) (sym (generation_is by slot bytes payloads some is))
    (why_stays (refusal_of why) slot (5 + length bytes) (by (opening_in bytes)) (drop 1 payloads) (refused why (by (opening_in bytes)) held))

ends_at : (bytes : List ℕ) (payloads : List (List ℕ)) → 0 < length payloads → bytes ≡ slice_index_or payloads 0 [] → (5 + length bytes) + end_of (drop 1 payloads) ≡ end_of payloads
ends_at bytes [] some is = absurd (omega (arith, some))
ends_at bytes (p ∷ payloads) some is = ap (λ (b : List ℕ). (5 + length b) + end_of payloads) is

-- The opening of a slot's generation was read, and opens this list; the records behind it begin at a place.
pub record IsOpened {D : Type 0} (state : D → DiskState) (old mid : PlainDisks D) (by : Option KeptOpening → Folded ShardList) (slot : ℕ) (bytes : List ℕ) (list : ShardList) (place : ℕ) : Type 0 where
  pub read : IsRead state old mid
  pub some : 0 < length (records_in (outline old) slot)
  pub is : Told state old → bytes ≡ slice_index_or (records_in (outline old) slot) 0 []
  pub holds : by (opening_in bytes) ≡ Holds list
  pub at : place ≡ 5 + length bytes

-- what comes of the records behind it comes of the generation
pub generation_then : {D : Type 0} (P : Folded ShardList → Type 0) (state : D → DiskState) (old mid : PlainDisks D) (by : Option KeptOpening → Folded ShardList) (slot : ℕ) (bytes : List ℕ) (list : ShardList) (place : ℕ)
    → IsOpened state old mid by slot bytes list place → (Told state mid → P (with_records slot place (Holds list) (drop 1 (records_in (outline mid) slot))))
    → Told state old → P (generation_told by slot (records_in (outline old) slot))
generation_then P state old mid by slot bytes list place was then told =
    subst P
    (ap (λ (o : Outline). with_records slot place (Holds list) (drop 1 (records_in o slot))) was.read.stays
    ∙ ap (λ n. with_records slot n (Holds list) (drop 1 (records_in (outline old) slot))) was.at
    ∙ ap (λ h. with_records slot (5 + length bytes) h (drop 1 (records_in (outline old) slot))) (sym was.holds)
    ∙ sym (generation_is by slot bytes (records_in (outline old) slot) was.some (was.is told)))
    (then (told_then state old mid was.read told))

pub generation_reached : {D : Type 0} (state : D → DiskState) (old mid : PlainDisks D) (by : Option KeptOpening → Folded ShardList) (slot : ℕ) (bytes : List ℕ) (list : ShardList) (place : ℕ) (index : KeptIndex) (end : ℕ)
    → IsOpened state old mid by slot bytes list place → (Told state mid → end ≡ place + end_of (drop 1 (records_in (outline mid) slot)))
    → end + potential (list_of index) ≤ MOST_SLOT → length index.awaited ≤ MOST_AWAITED → IsReached state old slot index end
generation_reached state old mid by slot bytes list place index end was ends room few = record {
  some = was.some;
  ends = λ told.
      ends (told_then state old mid was.read told)
      ∙ ap (λ (o : Outline). place + end_of (drop 1 (records_in o slot))) was.read.stays
      ∙ ap (λ n. n + end_of (drop 1 (records_in (outline old) slot))) was.at
      ∙ ends_at bytes (records_in (outline old) slot) was.some (was.is told);
  room = room;
  few = few;
}
