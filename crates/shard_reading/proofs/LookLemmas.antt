-- Disks that are only read, call after call.
use Rattle.std.proofs.Common.{◌≡◌, inl, inr, ℕ, Bool, IsTrue, List, [], ◌∷◌, Result, Ok, Err, refl, sym, ap, subst, ◌∙◌}
use Rattle.std.specs.Prelude.{None}
use Rattle.std.specs.List.{list_all}
use Rattle.std.proofs.lemmas.List.Folds.{list_all-map}
use Rattle.outside.specs.Along.{keeps_and, keeps_at_first, keeps_weaker}
use Rattle.outside.specs.DiskModel.{DiskState, WritesNone}
use Rattle.shard_disks.specs.Calls.{IsRead, Told}
use Rattle.shard_disks.specs.Images.{AllRead, KeepsDisks, WithinAll, faults_of, tell_all, tells_of}
use Rattle.shard_disks.specs.Lists.{Pairwise}
use Rattle.shard_disks.specs.Outline.{IsEither, Outline, reads_after, reads_in, reads_of}
use Rattle.shard_disks.specs.PlainDisks.{PlainDisks, all_disks, outline}
use Rattle.shard_reading.specs.declared.unread.Unread.{Unread}
use Rattle.shard_reading.specs.Giving.{IsCause, IsReadBlamed}
use Rattle.shard_reading.specs.Steps.{Looks, records_in}

-- disks that tell what others tell
tell_kept : {D : Type 0} (state : D → DiskState) (ds es : List D) → tells_of state es ≡ tells_of state ds → IsTrue (tell_all state ds) → IsTrue (tell_all state es)
tell_kept state ds es same told =
    sym (list_all-map (λ (b : Bool). b) (λ d. (state d).tells) es) ∙ (ap (list_all (λ (b : Bool). b)) same ∙ (list_all-map (λ (b : Bool). b) (λ d. (state d).tells) ds ∙ told))

pub told_kept : {D : Type 0} (state : D → DiskState) (old new : PlainDisks D) → KeepsDisks state (all_disks old) (all_disks new) → Told state old → Told state new
told_kept state old new keeps told = tell_kept state (all_disks old) (all_disks new) keeps.tells told

pub told_then : {D : Type 0} (state : D → DiskState) (old new : PlainDisks D) → IsRead state old new → Told state old → Told state new
told_then state old new read told = told_kept state old new read.disks told

pub keeps_then : {D : Type 0} (state : D → DiskState) (old mid new : List D) → KeepsDisks state old mid → KeepsDisks state mid new → KeepsDisks state old new
keeps_then state old mid new first second = record { tells = second.tells ∙ first.tells; arms = second.arms ∙ first.arms }

-- what holds of an element and the next one in turn
pairs_same : {A : Type 0} (S : A → A → Type 0) → ((x : A) → S x x) → (xs : List A) → Pairwise S xs xs
pairs_same S same [] = tt
pairs_same S same (x ∷ xs) = (same x, pairs_same S same xs)

pairs_then : {A : Type 0} (S : A → A → Type 0) → ((x y z : A) → S x y → S y z → S x z) → (xs ys zs : List A) → Pairwise S xs ys → Pairwise S ys zs → Pairwise S xs zs
pairs_then S then [] [] [] p q = tt
pairs_then S then [] [] (z ∷ zs) p q = absurd q
pairs_then S then [] (y ∷ ys) zs p q = absurd p
pairs_then S then (x ∷ xs) [] zs p q = absurd p
pairs_then S then (x ∷ xs) (y ∷ ys) [] p q = absurd q
pairs_then S then (x ∷ xs) (y ∷ ys) (z ∷ zs) p q = (then x y z p.0 q.0, pairs_then S then xs ys zs p.1 q.1)

none_then : (a b c : DiskState) → WritesNone a b → WritesNone b c → WritesNone a c
none_then a b c first second = record {
  size = second.size ∙ first.size;
  seen = second.seen ∙ first.seen;
  images = λ image left. first.images image (second.images image left);
}

-- the images of disks that rest
pub rest_images : {D : Type 0} (state : D → DiskState) (d : PlainDisks D) → (outline d).doubted ≡ None
    → (Told state d → AllRead state (all_disks d) (IsEither (reads_of (outline d)) (reads_after (outline d))))
    → ((outline d).doubted ≡ None → reads_after (outline d) ≡ reads_of (outline d))
    → Told state d → AllRead state (all_disks d) (λ reads. reads ≡ reads_of (outline d))
rest_images state d rests images same told images_here left =
    elim (images told images_here left) [ inl e ↦ e | inr e ↦ e ∙ same rests ]

pub read_none : {D : Type 0} (state : D → DiskState) (d : PlainDisks D) → (Told state d → AllRead state (all_disks d) (λ reads. reads ≡ reads_of (outline d))) → IsRead state d d
read_none state d images = record {
  stays = refl;
  disks = record { tells = refl; arms = refl };
  seen = refl;
  writes_none = pairs_same (λ before now. WritesNone (state before) (state now)) (λ x. record { size = refl; seen = refl; images = λ image left. left }) (all_disks d);
  any_moment = λ told. keeps_at_first (WithinAll state) (λ images. reads_in images ≡ reads_of (outline d)) d.past (all_disks d);
  images = images;
}

-- and then another call
pub read_and : {D : Type 0} (state : D → DiskState) (old mid new : PlainDisks D) → IsRead state old mid → IsRead state mid new → IsRead state old new
read_and state old mid new first second = record {
  stays = second.stays ∙ first.stays;
  disks = keeps_then state (all_disks old) (all_disks mid) (all_disks new) first.disks second.disks;
  seen = second.seen ∙ first.seen;
  writes_none = pairs_then (λ before now. WritesNone (state before) (state now)) (λ x y z. none_then (state x) (state y) (state z))
      (all_disks old) (all_disks mid) (all_disks new) first.writes_none second.writes_none;
  any_moment = λ told. keeps_and (WithinAll state) (λ images. reads_in images ≡ reads_of (outline old)) old.past (all_disks old) mid.past (all_disks mid) new.past (all_disks new)
      (first.any_moment told)
      (keeps_weaker (WithinAll state) (λ images. reads_in images ≡ reads_of (outline mid)) (λ images. reads_in images ≡ reads_of (outline old))
      mid.past (all_disks mid) new.past (all_disks new) (λ images e. e ∙ ap reads_of first.stays) (second.any_moment (told_then state old mid first told)));
  images = λ told. second.images (told_then state old mid first told);
}

pub same_records : {D : Type 0} (state : D → DiskState) (old new : PlainDisks D) → IsRead state old new → (slot : ℕ) → records_in (outline new) slot ≡ records_in (outline old) slot
same_records state old new read slot = ap (λ (o : Outline). records_in o slot) read.stays

-- ---- which disk is to blame

-- the counts of faults were the same till then
pub blamed_then : {X : Type 0} (before mid now : List ℕ) (result : Result X Unread) → mid ≡ before → IsReadBlamed mid now result → IsReadBlamed before now result
blamed_then before mid now result same blamed = subst (λ l. IsReadBlamed l now result) same blamed

pub looks_none : {D X : Type 0} (state : D → DiskState) (d : PlainDisks D) (result : Result X Unread)
    → (Told state d → AllRead state (all_disks d) (λ reads. reads ≡ reads_of (outline d)))
    → IsReadBlamed (faults_of state (all_disks d)) (faults_of state (all_disks d)) result → Looks state d d result
looks_none state d result images cause = record { read = read_none state d images; cause = cause }

pub looks_and : {D X Y : Type 0} (state : D → DiskState) (old mid new : PlainDisks D) (x : Y) (result : Result X Unread)
    → Looks state old mid (Ok x) → Looks state mid new result → Looks state old new result
looks_and state old mid new x result first second = record {
  read = read_and state old mid new first.read second.read;
  cause = blamed_then (faults_of state (all_disks old)) (faults_of state (all_disks mid)) (faults_of state (all_disks new)) result first.cause second.cause;
}

-- a refusal by what was read
pub looks_inside : {D X Y : Type 0} (state : D → DiskState) (old new : PlainDisks D) (x : Y) (why : Unread)
    → ((before now : List ℕ) → now ≡ before → IsCause why before now) → Looks state old new (Ok x) → Looks {X = X} state old new (Err why)
looks_inside state old new x why inside looks = record {
  read = looks.read;
  cause = inside (faults_of state (all_disks old)) (faults_of state (all_disks new)) looks.cause;
}
