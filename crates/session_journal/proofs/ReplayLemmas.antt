-- Records that are read one after the other.
use Rattle.std.proofs.Common.{◌≡◌, ◌⊎◌, inl, inr, ℕ, suc, Bool, true, false, ◌||◌, ◌+◌, ◌-◌, ◌^◌, ◌<◌, ◌≤◌, min, IsTrue, List, [], ◌∷◌, length, drop, slice_index_or, Err, refl, sym, ap, subst, ◌∙◌, arith, drop-cons}
use Rattle.std.specs.Prelude.{◌==◌}
use Rattle.std.proofs.lemmas.Bool.{eqb-true}
use Rattle.std.proofs.lemmas.List.{length-drop}
use Rattle.std.proofs.Math.ListN.{drop_of_length-le}
use Rattle.outside.specs.Along.{WithinBoth, keeps_at_first}
use Rattle.outside.specs.DiskModel.{DiskState}
use Rattle.gated_log.specs.declared.refused.LogRefused.{LogRefused}
use Rattle.gated_log.specs.declared.refused.LogRefused.TheVariants.{Full, Fault, Memory}
use Rattle.gated_log.specs.Blame as blame
use Rattle.gated_log.specs.PlainLog.{end_of}
use Rattle.pair_log.specs.Epochs.{read_pair, snapshot_of}
use Rattle.pair_log.specs.PlainPair.{PlainPair, Told, both_disks, head_of, tail_of}
use Rattle.session_state.specs.KeptSession.{KeptSessions}
use Rattle.session_codec.specs.declared.formats.TheConstants.{FIRST_FORMAT, SECOND_FORMAT}
use Rattle.session_codec.specs.HasSpelling.{fits_sessions, is_format}
use Rattle.session_codec.specs.KeepLaws.{second_format}
use Rattle.session_journal.specs.declared.asked.Asked.{Asked}
use Rattle.session_journal.specs.declared.unread.Unread.{Unread}
use Rattle.session_journal.specs.declared.unread.Unread.TheVariants as unread
use Rattle.session_journal.specs.Fold.{Folded, Holds, IsDamaged, HasAnother, fold_records, folded, format_told, opened, with_changes}
use Rattle.session_journal.specs.Giving.{IsCause, IsInside, IsOutside, IsWhy, unread_of}
use Rattle.session_journal.specs.PairCalls.{IsRead}
use Rattle.session_journal.proofs.ReadLemmas.{read_and, same_payloads, told_then}

-- why a log didn't read is a cause
pub cause_of : {T : Type 0} (why : LogRefused) (before now : ℕ) → blame.IsBlamed {T = T} before now (Err why) → IsCause (unread_of why) before now
cause_of Full before now b = b.kept (λ e. cc)
cause_of Fault before now b = (b.later, b.fault refl)
cause_of Memory before now b = b.kept (λ e. cc)

-- a refusal stays, whatever comes behind it
damaged_stays : (format shards place at : ℕ) (payloads : List (List ℕ)) → fold_records format shards place (IsDamaged at) payloads ≡ IsDamaged at
damaged_stays format shards place at [] = refl
damaged_stays format shards place at (p ∷ payloads) = damaged_stays format shards (place + (5 + length p)) at payloads

pub why_stays : (why : Unread) (format shards place : ℕ) (so_far : Folded) (payloads : List (List ℕ)) → IsWhy why so_far
    → IsWhy why (fold_records format shards place so_far payloads)
why_stays (unread.Damaged at) format shards place so_far payloads e =
    ap (λ f. fold_records format shards place f payloads) e ∙ damaged_stays format shards place at payloads
why_stays (unread.Another what kept asked) format shards place so_far payloads e =
    ap (λ f. fold_records format shards place f payloads) e ∙ another_stays place payloads
  where
    another_stays : (place : ℕ) (payloads : List (List ℕ)) → fold_records format shards place (HasAnother what kept asked) payloads ≡ HasAnother what kept asked
    another_stays place [] = refl
    another_stays place (p ∷ payloads) = another_stays (place + (5 + length p)) payloads
why_stays unread.Fault format shards place so_far payloads e = tt
why_stays unread.Memory format shards place so_far payloads e = tt

pub read_none : {D : Type 0} (state : D → DiskState) (pair : PlainPair D) → IsRead state pair pair
read_none state pair = record {
  stays = refl;
  writes_none = record { size = refl; seen = refl; images = λ image left. left };
  moments = λ told. keeps_at_first (WithinBoth state) (λ images. read_pair images.0 images.1 ≡ pair.active.payloads) pair.past (both_disks pair);
  tells = refl;
  arms = refl;
}

-- so many records were read, and the next one has its gate at a place
pub record IsReplayed {D : Type 0} (state : D → DiskState) (old now : PlainPair D) (format shards place : ℕ) (before sessions : KeptSessions) (number at : ℕ) : Type 0 where
  pub reads : IsRead state old now
  pub faults : (state now.active.disk).faults ≡ (state old.active.disk).faults
  pub folds :
      Told state old →
      fold_records format shards place (Holds before) (tail_of old.active.payloads)
      ≡ fold_records format shards at (Holds sessions) (drop number (tail_of old.active.payloads))
  pub places : Told state old → at + end_of (drop number (tail_of old.active.payloads)) ≡ place + end_of (tail_of old.active.payloads)
  pub spelled : IsTrue (fits_sessions format shards sessions)

pub none_replayed : {D : Type 0} (state : D → DiskState) (pair : PlainPair D) (format shards place : ℕ) (sessions : KeptSessions) → IsTrue (fits_sessions format shards sessions)
    → IsReplayed state pair pair format shards place sessions sessions 0 place
none_replayed state pair format shards place sessions spelled =
    record { reads = read_none state pair; faults = refl; folds = λ told. refl; places = λ told. refl; spelled = spelled }

-- one more
first_left : (payloads : List (List ℕ)) (number : ℕ) → number < length payloads → drop number payloads ≡ slice_index_or payloads number [] ∷ drop (number + 1) payloads
first_left payloads number within =
    let next : suc number ≡ number + 1 = omega arith in
    drop-cons payloads number [] within ∙ ap (λ n. slice_index_or payloads number [] ∷ drop n payloads) next

pub replayed_more : {D : Type 0} (state : D → DiskState) (old mid new : PlainPair D) (format shards place : ℕ) (before sessions after : KeptSessions) (number at next : ℕ)
    → IsReplayed state old mid format shards place before sessions number at
    → number < length (tail_of old.active.payloads)
    → (Told state old → place + end_of (tail_of old.active.payloads) < 2 ^ 64)
    → IsRead state mid new → (state new.active.disk).faults ≡ (state mid.active.disk).faults
    → (Told state mid → with_changes format shards at (slice_index_or (tail_of mid.active.payloads) number []) (Holds sessions) ≡ Holds after)
    → (Told state mid → next ≡ min (at + (5 + length (slice_index_or (tail_of mid.active.payloads) number []))) (2 ^ 64 - 1))
    → IsTrue (fits_sessions format shards after)
    → IsReplayed state old new format shards place before after (number + 1) next
replayed_more {D = D} state old mid new format shards place before sessions after number at next was within fits reads faults changes goes spelled = record {
  reads = read_and state old mid new was.reads reads;
  faults = faults ∙ was.faults;
  folds = λ told.
      was.folds told ∙ ap (fold_records format shards at (Holds sessions)) left
      ∙ ap (λ f. fold_records format shards (at + (5 + length (slice_index_or tail number []))) f (drop (number + 1) tail)) (changed told)
      ∙ ap (λ n. fold_records format shards n (Holds after) (drop (number + 1) tail)) (sym (place_is told));
  places = λ told.
      ap (λ n. n + end_of (drop (number + 1) tail)) (place_is told) ∙ rest told ∙ was.places told;
  spelled = spelled;
} where
  tail : List (List ℕ)
  tail = tail_of old.active.payloads

  left : drop number tail ≡ slice_index_or tail number [] ∷ drop (number + 1) tail
  left = first_left tail number within

  same : tail_of mid.active.payloads ≡ tail
  same = ap tail_of (same_payloads state old mid was.reads)

  changed : Told state old → with_changes format shards at (slice_index_or tail number []) (Holds sessions) ≡ Holds after
  changed told =
      subst (λ t. with_changes format shards at (slice_index_or t number []) (Holds sessions) ≡ Holds after) same (changes (told_then state old mid was.reads told))

  rest : Told state old → at + (5 + length (slice_index_or tail number [])) + end_of (drop (number + 1) tail) ≡ at + end_of (drop number tail)
  rest told = let e : end_of (drop number tail) ≡ (5 + length (slice_index_or tail number [])) + end_of (drop (number + 1) tail) = ap end_of left in omega arith

  place_is : Told state old → next ≡ at + (5 + length (slice_index_or tail number []))
  place_is told =
      let e : next ≡ min (at + (5 + length (slice_index_or tail number []))) (2 ^ 64 - 1) =
      subst (λ t. next ≡ min (at + (5 + length (slice_index_or t number []))) (2 ^ 64 - 1)) same (goes (told_then state old mid was.reads told)) in
      let r = rest told in let p = was.places told in let f = fits told in omega arith

-- all were read
pub all_replayed : {D : Type 0} (state : D → DiskState) (old now : PlainPair D) (format shards place : ℕ) (before sessions : KeptSessions) (number at : ℕ)
    → IsReplayed state old now format shards place before sessions number at → length (tail_of old.active.payloads) ≤ number
    → Told state old → fold_records format shards place (Holds before) (tail_of old.active.payloads) ≡ Holds sessions
all_replayed state old now format shards place before sessions number at was all told =
    was.folds told ∙ ap (fold_records format shards at (Holds sessions)) (drop_of_length-le (tail_of old.active.payloads) all)

-- one was refused
pub one_refused : {D : Type 0} (state : D → DiskState) (old mid : PlainPair D) (format shards place : ℕ) (before sessions : KeptSessions) (number at : ℕ) (why : Unread)
    → IsReplayed state old mid format shards place before sessions number at → number < length (tail_of old.active.payloads)
    → (Told state mid → IsWhy why (with_changes format shards at (slice_index_or (tail_of mid.active.payloads) number []) (Holds sessions)))
    → Told state old → IsWhy why (fold_records format shards place (Holds before) (tail_of old.active.payloads))
one_refused {D = D} state old mid format shards place before sessions number at why was within refused told =
    subst (IsWhy why) (sym (was.folds told ∙ ap (fold_records format shards at (Holds sessions)) (first_left (tail_of old.active.payloads) number within)))
    (why_stays why format shards (at + (5 + length (slice_index_or (tail_of old.active.payloads) number [])))
    (with_changes format shards at (slice_index_or (tail_of old.active.payloads) number []) (Holds sessions)) (drop (number + 1) (tail_of old.active.payloads))
    (subst (λ t. IsWhy why (with_changes format shards at (slice_index_or t number []) (Holds sessions))) (ap tail_of (same_payloads state old mid was.reads))
    (refused (told_then state old mid was.reads told))))

-- ---- reasons

pub outside_of : (why : LogRefused) → IsOutside (unread_of why)
outside_of Full = tt
outside_of Fault = tt
outside_of Memory = tt

pub outside_is : (why : Unread) (held : Folded) → IsOutside why → IsWhy why held
outside_is (unread.Damaged at) held out = absurd out
outside_is (unread.Another what kept asked) held out = absurd out
outside_is unread.Fault held out = tt
outside_is unread.Memory held out = tt

pub inside_cause : (why : Unread) (before now : ℕ) → IsInside why → now ≡ before → IsCause why before now
inside_cause (unread.Damaged at) before now within e = e
inside_cause (unread.Another what kept asked) before now within e = e
inside_cause unread.Fault before now within e = absurd within
inside_cause unread.Memory before now within e = e

-- ---- a whole pair

pub refused_opening : (asked : Asked) (payloads : List (List ℕ)) (why : Unread) → 0 < length payloads
    → IsWhy why (opened asked (snapshot_of (head_of payloads))) → IsWhy why (folded asked payloads)
unfolding folded
refused_opening asked [] why some is = absurd (omega (arith, some))
refused_opening asked (p ∷ payloads) why some is = why_stays why (format_told (snapshot_of p)) asked.shards (5 + length p) (opened asked (snapshot_of p)) payloads is

pub folded_opened : (asked : Asked) (payloads : List (List ℕ)) (s : KeptSessions) → 0 < length payloads → 0 < length (snapshot_of (head_of payloads))
    → opened asked (snapshot_of (head_of payloads)) ≡ Holds s
    → folded asked payloads
    ≡ fold_records (format_told (snapshot_of (head_of payloads))) asked.shards (13 + length (snapshot_of (head_of payloads))) (Holds s) (tail_of payloads)
unfolding folded
folded_opened asked [] s some long is = absurd (omega (arith, some))
folded_opened asked (p ∷ payloads) s some long is =
    let place : 5 + length p ≡ 13 + length (snapshot_of p) = omega (arith, length-drop 8 p, long) in
    ap (λ f. fold_records (format_told (snapshot_of p)) asked.shards (5 + length p) f payloads) is
    ∙ ap (λ n. fold_records (format_told (snapshot_of p)) asked.shards n (Holds s) payloads) place

pub ends_at : (payloads : List (List ℕ)) → 0 < length payloads → 0 < length (snapshot_of (head_of payloads))
    → 13 + length (snapshot_of (head_of payloads)) + end_of (tail_of payloads) ≡ end_of payloads
ends_at [] some long = absurd (omega (arith, some))
ends_at (p ∷ payloads) some long = omega (arith, length-drop 8 p, long)

-- what is read in either format has a spelling in the one that is written
pub to_second : (format shards : ℕ) (s : KeptSessions) → (format ≡ FIRST_FORMAT) ⊎ (format ≡ SECOND_FORMAT) → IsTrue (fits_sessions format shards s)
    → IsTrue (fits_sessions SECOND_FORMAT shards s)
to_second format shards s (inl first) fits = second_format shards s (subst (λ f. IsTrue (fits_sessions f shards s)) first fits)
to_second format shards s (inr second) fits = subst (λ f. IsTrue (fits_sessions f shards s)) second fits

pub known_format : (format : ℕ) → IsTrue (is_format format) → (format ≡ FIRST_FORMAT) ⊎ (format ≡ SECOND_FORMAT)
known_format format known = by (format == FIRST_FORMAT) refl (format == SECOND_FORMAT) refl known
  where
    by : (a : Bool) → (format == FIRST_FORMAT) ≡ a → (b : Bool) → (format == SECOND_FORMAT) ≡ b → (a || b) ≡ true → (format ≡ FIRST_FORMAT) ⊎ (format ≡ SECOND_FORMAT)
    by true e b f h = inl (eqb-true format FIRST_FORMAT e)
    by false e true f h = inr (eqb-true format SECOND_FORMAT f)
    by false e false f h = absurd cc

pub replayed_folded : (asked : Asked) (payloads later : List (List ℕ)) (s : KeptSessions) (bytes : List ℕ) (format count : ℕ) → 0 < length payloads
    → later ≡ payloads → bytes ≡ snapshot_of (head_of payloads) → 0 < length bytes → opened asked bytes ≡ Holds s
    → format ≡ format_told bytes → count ≡ length bytes
    → folded asked payloads ≡ fold_records format asked.shards (13 + count) (Holds s) (tail_of later)
replayed_folded asked payloads later s bytes format count some same is long opens told counted =
    folded_opened asked payloads s some (subst (λ b. 0 < length b) is long) (subst (λ b. opened asked b ≡ Holds s) is opens)
    ∙ ap (λ b. fold_records (format_told b) asked.shards (13 + length b) (Holds s) (tail_of payloads)) (sym is)
    ∙ ap (λ f. fold_records f asked.shards (13 + length bytes) (Holds s) (tail_of payloads)) (sym told)
    ∙ ap (λ n. fold_records format asked.shards (13 + n) (Holds s) (tail_of payloads)) (sym counted)
    ∙ ap (λ l. fold_records format asked.shards (13 + count) (Holds s) (tail_of l)) (sym same)
