-- The parts of a call, one after the other.
use Rattle.std.proofs.Common.{◌≡◌, inl, inr, ℕ, ◌+◌, ◌≤◌, Bool, IsTrue, IsErrOf, Result, Ok, Err, List, [], ◌∷◌, map, slice_set, slice_index_or, refl, sym, ap, subst, ◌∙◌, arith}
use Rattle.std.specs.List.{list_all}
use Rattle.std.proofs.lemmas.List.{set-get_or}
use Rattle.std.proofs.lemmas.List.Folds.{list_all-map}
use Rattle.outside.specs.Along.{Keeps, keeps_and, keeps_at_first, keeps_weaker}
use Rattle.outside.specs.DiskModel.{DiskState}
use Rattle.gated_log.specs.declared.refused.LogRefused.{LogRefused}
use Rattle.gated_log.specs.declared.refused.LogRefused.TheVariants.{Fault as Failed}
use Rattle.shard_model.specs.ShardList.{ShardList}
use Rattle.shard_index.specs.declared.refused.AppendRefused.{AppendRefused}
use Rattle.shard_index.specs.declared.refused.AppendRefused.TheVariants.{Fault}
use Rattle.shard_fold.specs.declared.asked.Asked.{Asked}
use Rattle.shard_fold.specs.FoldLaws.{newest_slot}
use Rattle.shard_disks.specs.Blame as disks
use Rattle.shard_disks.specs.Calls.{WriteNone, slot_seen}
use Rattle.shard_disks.specs.Images.{EachMoment, KeepsDisks, WithinAll, seen_of, tell_all, tells_of}
use Rattle.shard_disks.specs.Lists.{Pairwise}
use Rattle.shard_disks.specs.Outline.{IsEither, Reads, reads_in}
use Rattle.shard_disks.specs.PlainDisks.{PlainDisks, all_disks}
use Rattle.shard_reading.specs.Held.{HoldsEither, HoldsOne, held_in}
use Rattle.shard_log.specs.Parts.{IsBlamed, IsPart}
use Rattle.shard_log.specs.PlainShardLog.{PlainShardLog, own_slot}
use Rattle.shard_log.proofs.ListLemmas.{set_twice}

-- ---- disks

pub tell_kept : {D : Type 0} (state : D → DiskState) (ds es : List D) → tells_of state es ≡ tells_of state ds → IsTrue (tell_all state ds) → IsTrue (tell_all state es)
tell_kept state ds es same told =
    sym (list_all-map (λ (b : Bool). b) (λ d. (state d).tells) es) ∙ (ap (list_all (λ (b : Bool). b)) same ∙ (list_all-map (λ (b : Bool). b) (λ d. (state d).tells) ds ∙ told))

pub all_write_none : {D : Type 0} (state : D → DiskState) (ds : List D) → WriteNone state ds ds
all_write_none state [] = tt
all_write_none state (d ∷ ds) = (record { size = refl; seen = refl; images = λ image left. left }, all_write_none state ds)

-- with nothing written the bytes stay
pub none_seen : {D : Type 0} (state : D → DiskState) (ds es : List D) → WriteNone state ds es → seen_of state es ≡ seen_of state ds
none_seen state [] [] none = refl
none_seen state [] (e ∷ es) none = absurd none
none_seen state (d ∷ ds) [] none = absurd none
none_seen state (d ∷ ds) (e ∷ es) none = (λ i. none.0.seen i ∷ none_seen state ds es none.1 i)

pub later_same : (counts : List ℕ) → Pairwise (λ b n. b ≤ n) counts counts
later_same [] = tt
later_same (n ∷ counts) = (omega arith, later_same counts)

-- ---- moments

module _ {D : Type 0} (state : D → DiskState) where
  pub moments_and : (P : Reads → Type 0) (old mid new : PlainDisks D) → KeepsDisks state (all_disks old) (all_disks mid) → EachMoment state old mid P → EachMoment state mid new P → EachMoment state old new P
  moments_and P old mid new kept first second = λ told.
      keeps_and (WithinAll state) (λ images. P (reads_in images)) old.past (all_disks old) mid.past (all_disks mid) new.past (all_disks new)
      (first told) (second (tell_kept state (all_disks old) (all_disks mid) kept.tells told))

  pub moments_weaker : (P Q : Reads → Type 0) (old new : PlainDisks D) → ((reads : Reads) → P reads → Q reads) → EachMoment state old new P → EachMoment state old new Q
  moments_weaker P Q old new weaker moments = λ told.
      keeps_weaker (WithinAll state) (λ images. P (reads_in images)) (λ images. Q (reads_in images)) old.past (all_disks old) new.past (all_disks new)
      (λ images. weaker (reads_in images)) (moments told)

  pub moments_none : (P : Reads → Type 0) (old new : PlainDisks D) → all_disks new ≡ all_disks old → new.past ≡ old.past → EachMoment state old new P
  moments_none P old new same past = λ told.
      subst (λ (p : List (List D)). Keeps (WithinAll state) (λ images. P (reads_in images)) old.past (all_disks old) p (all_disks new)) (sym past)
      (subst (λ ds. Keeps (WithinAll state) (λ images. P (reads_in images)) old.past (all_disks old) old.past ds) (sym same)
      (keeps_at_first (WithinAll state) (λ images. P (reads_in images)) old.past (all_disks old)))

-- ---- parts

module _ {D : Type 0} (state : D → DiskState) where
  -- the disks are as they were, with the moments that stood
  pub part_none : (P : Reads → Type 0) (old new : PlainShardLog D) → new.asked ≡ old.asked → new.index.cuts ≡ old.index.cuts →
      all_disks new.disks ≡ all_disks old.disks → new.disks.past ≡ old.disks.past → IsPart state P old new
  part_none P old new asked cuts same past = record {
    asked = asked;
    cuts = cuts;
    disks = record { tells = ap (tells_of state) same; arms = ap (λ ds. map (λ d. (state d).arms) ds) same };
    elsewhere = λ told.
        ap (seen_of state) same
        ∙ sym (ap (λ ds. slice_set (seen_of state (all_disks old.disks)) (2 + own_slot old) (slice_index_or (seen_of state ds) (2 + own_slot old) [])) same
        ∙ set-get_or (seen_of state (all_disks old.disks)) (2 + own_slot old) []);
    any_moment = moments_none state P old.disks new.disks same past;
  }

  -- nothing is written
  pub part_read : (P : Reads → Type 0) (old new : PlainShardLog D) → new.asked ≡ old.asked → new.index.cuts ≡ old.index.cuts →
      KeepsDisks state (all_disks old.disks) (all_disks new.disks) → WriteNone state (all_disks old.disks) (all_disks new.disks) → EachMoment state old.disks new.disks P →
      IsPart state P old new
  part_read P old new asked cuts kept none moments = record {
    asked = asked;
    cuts = cuts;
    disks = kept;
    elsewhere = λ told.
        let same = none_seen state (all_disks old.disks) (all_disks new.disks) none in
        same
        ∙ sym (ap (λ (l : List (List ℕ)). slice_set (seen_of state (all_disks old.disks)) (2 + own_slot old) (slice_index_or l (2 + own_slot old) [])) same
        ∙ set-get_or (seen_of state (all_disks old.disks)) (2 + own_slot old) []);
    any_moment = moments;
  }

  pub part_weaker : (P Q : Reads → Type 0) (old new : PlainShardLog D) → ((reads : Reads) → P reads → Q reads) → IsPart state P old new → IsPart state Q old new
  part_weaker P Q old new weaker part = record {
    asked = part.asked;
    cuts = part.cuts;
    disks = part.disks;
    elsewhere = part.elsewhere;
    any_moment = moments_weaker state P Q old.disks new.disks weaker part.any_moment;
  }

  pub part_and : (P : Reads → Type 0) (old mid new : PlainShardLog D) → IsPart state P old mid → IsPart state P mid new → IsPart state P old new
  part_and P old mid new first second = record {
    asked = second.asked ∙ first.asked;
    cuts = second.cuts ∙ first.cuts;
    disks = record { tells = second.disks.tells ∙ first.disks.tells; arms = second.disks.arms ∙ first.disks.arms };
    elsewhere = λ told. elsewhere (own_slot mid) (ap newest_slot first.cuts)
        (first.elsewhere told) (second.elsewhere (tell_kept state (all_disks old.disks) (all_disks mid.disks) first.disks.tells told));
    any_moment = moments_and state P old.disks mid.disks new.disks first.disks first.any_moment second.any_moment;
  }
    where
      elsewhere : (k : ℕ) → k ≡ own_slot old →
          seen_of state (all_disks mid.disks) ≡ slice_set (seen_of state (all_disks old.disks)) (2 + own_slot old) (slot_seen state mid.disks (own_slot old)) →
          seen_of state (all_disks new.disks) ≡ slice_set (seen_of state (all_disks mid.disks)) (2 + k) (slot_seen state new.disks k) →
          seen_of state (all_disks new.disks) ≡ slice_set (seen_of state (all_disks old.disks)) (2 + own_slot old) (slot_seen state new.disks (own_slot old))
      elsewhere k is a b =
          let here : seen_of state (all_disks new.disks) ≡ slice_set (seen_of state (all_disks mid.disks)) (2 + own_slot old) (slot_seen state new.disks (own_slot old)) =
          subst (λ n. seen_of state (all_disks new.disks) ≡ slice_set (seen_of state (all_disks mid.disks)) (2 + n) (slot_seen state new.disks n)) is b in
          here
          ∙ (ap (λ l. slice_set l (2 + own_slot old) (slot_seen state new.disks (own_slot old))) a
          ∙ set_twice (seen_of state (all_disks old.disks)) (2 + own_slot old) (slot_seen state mid.disks (own_slot old)) (slot_seen state new.disks (own_slot old)))

-- ---- what is held at a moment

pub either_holds : (asked : Asked) (first second : ShardList) (before after reads : Reads) → HoldsOne asked first before → HoldsOne asked second after →
    IsEither before after reads → HoldsEither asked first second reads
either_holds asked first second before after reads one two (inl is) = inl (ap (held_in asked) is ∙ one)
either_holds asked first second before after reads one two (inr is) = inr (ap (held_in asked) is ∙ two)

-- ---- blame

pub ok_none : {T E : Type 0} (x : T) (e : E) → IsErrOf {T = T} (Ok x) e → ⊥
ok_none x e is = absurd cc

pub err_none : {T : Type 0} (a b : AppendRefused) → (a ≡ b → ⊥) → IsErrOf {T = T} (Err a) b → ⊥
err_none a b other is = other (let same : a ≡ b = cc in same)

pub blamed_none : {T : Type 0} (counts now : List ℕ) (result : Result T AppendRefused) → now ≡ counts → (IsErrOf result Fault → ⊥) → IsBlamed counts now result
blamed_none counts now result same none = subst (λ l. IsBlamed counts l result) (sym same) (record { later = later_same counts; fault = λ is. absurd (none is); kept = λ other. refl })

pub blamed_by : {T U : Type 0} (before now : List ℕ) (by : Result T LogRefused) (result : Result U AppendRefused) → disks.IsBlamed before now by →
    (IsErrOf result Fault → IsErrOf by Failed) → (IsErrOf by Failed → IsErrOf result Fault) → IsBlamed before now result
blamed_by before now by result blamed there back = record {
  later = blamed.later;
  fault = λ is. blamed.fault (there is);
  kept = λ other. blamed.kept (λ is. other (back is));
}

-- the same of another answer that is a fault where this one is
pub blamed_as : {T U : Type 0} (before now : List ℕ) (by : Result T AppendRefused) (result : Result U AppendRefused) → IsBlamed before now by →
    (IsErrOf result Fault → IsErrOf by Fault) → (IsErrOf by Fault → IsErrOf result Fault) → IsBlamed before now result
blamed_as before now by result blamed there back = record {
  later = blamed.later;
  fault = λ is. blamed.fault (there is);
  kept = λ other. blamed.kept (λ is. other (back is));
}

-- after a call that was no fault
pub blamed_then : {T U : Type 0} (before mid now : List ℕ) (by : Result T AppendRefused) (result : Result U AppendRefused) → IsBlamed before mid by → (IsErrOf by Fault → ⊥) →
    IsBlamed mid now result → IsBlamed before now result
blamed_then before mid now by result first none second = subst (λ l. IsBlamed l now result) (first.kept none) second
