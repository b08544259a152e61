-- The lists of all disks, where one of them moves.
use Rattle.std.proofs.Common.{◌≡◌, inl, inr, ℕ, zero, suc, ◌≤◌, Bool, IsTrue, IsErrOf, Result, List, [], ◌∷◌, map, get_or, slice_set, slice_index_or, refl, sym, ap, ◌∙◌, arith}
use Rattle.std.specs.List.{list_all}
use Rattle.std.proofs.lemmas.List.Folds.{list_all-map}
use Rattle.outside.specs.DiskModel.{DiskState, WritesNone}
use Rattle.gated_log.specs.Blame as log
use Rattle.gated_log.specs.PlainLog.{PlainLog}
use Rattle.gated_log.specs.declared.refused.LogRefused.{LogRefused}
use Rattle.gated_log.specs.declared.refused.LogRefused.TheVariants.{Fault}
use Rattle.pair_log.specs.PlainPair.{PlainPair, first_disk, second_disk}
use Rattle.shard_disks.specs.Blame.{IsBlamed, SomeRose}
use Rattle.shard_disks.specs.Calls.{WriteNone}
use Rattle.shard_disks.specs.Images.{KeepsDisks, faults_of, seen_of, tell_all, tells_of}
use Rattle.shard_disks.specs.Lists.{Moved, Pairwise}
use Rattle.shard_disks.specs.Outline.{SlotOutline, no_slot, payloads_of, slot_at}
use Rattle.shard_disks.specs.PlainDisks.{disk_of, disks_in, outline_of}
use Rattle.shard_disks.proofs.ListLemmas.{moved_at, moved_map, moved_mapped, moved_pairs, moved_same}

-- what a call keeps of one disk
pub record KeepsDisk {D : Type 0} (state : D → DiskState) (old new : D) : Type 0 where
  pub tells : (state new).tells ≡ (state old).tells
  pub arms : (state new).arms ≡ (state old).arms

pub keeps_moved : {D : Type 0} (state : D → DiskState) (i : ℕ) (ds es : List D) → Moved i (KeepsDisk state) ds es → KeepsDisks state ds es
keeps_moved state i ds es m = record {
  tells = moved_same (λ d. (state d).tells) (KeepsDisk state) (λ d e k. k.tells) i ds es m;
  arms = moved_same (λ d. (state d).arms) (KeepsDisk state) (λ d e k. k.arms) i ds es m;
}

-- disks that tell what others tell
pub tell_kept : {D : Type 0} (state : D → DiskState) (ds es : List D) → tells_of state es ≡ tells_of state ds → IsTrue (tell_all state ds) → IsTrue (tell_all state es)
tell_kept state ds es same told =
    sym (list_all-map (λ (b : Bool). b) (λ d. (state d).tells) es) ∙ (ap (list_all (λ (b : Bool). b)) same ∙ (list_all-map (λ (b : Bool). b) (λ d. (state d).tells) ds ∙ told))

-- ---- the counts of faults

all_later : {D T : Type 0} (state : D → DiskState) (result : Result T LogRefused) (i : ℕ) (ds es : List D)
    → Moved i (λ d e. log.IsBlamed (state d).faults (state e).faults result) ds es → Pairwise (λ b n. b ≤ n) (faults_of state ds) (faults_of state es)
all_later state result i ds es m =
    moved_pairs (λ d. (state d).faults) (λ d e. log.IsBlamed (state d).faults (state e).faults result) (λ b n. b ≤ n) (λ b. omega arith) (λ d e b. b.later) i ds es m

some_rose : {D T : Type 0} (state : D → DiskState) (result : Result T LogRefused) → IsErrOf result Fault → (i : ℕ) (ds es : List D)
    → Moved i (λ d e. log.IsBlamed (state d).faults (state e).faults result) ds es → SomeRose (faults_of state ds) (faults_of state es)
some_rose state result fault i [] es m = absurd m
some_rose state result fault i (d ∷ ds) [] m = absurd m
some_rose state result fault zero (d ∷ ds) (e ∷ es) m = inl (m.0.fault fault)
some_rose state result fault (suc i) (d ∷ ds) (e ∷ es) m = inr (some_rose state result fault i ds es m.1)

pub blamed_moved : {D T : Type 0} (state : D → DiskState) (result : Result T LogRefused) (i : ℕ) (ds es : List D)
    → Moved i (λ d e. log.IsBlamed (state d).faults (state e).faults result) ds es → IsBlamed (faults_of state ds) (faults_of state es) result
blamed_moved state result i ds es m = record {
  later = all_later state result i ds es m;
  fault = λ fault. some_rose state result fault i ds es m;
  kept = λ other.
      moved_same (λ d. (state d).faults) (λ d e. log.IsBlamed (state d).faults (state e).faults result) (λ d e b. b.kept other) i ds es m;
}

-- ---- a slot's log moves

pub all_moved : {D : Type 0} (R : PlainLog D → PlainLog D → Type 0) (S : D → D → Type 0) → ((old new : PlainLog D) → R old new → S old.disk new.disk) → (m : PlainPair D) (i : ℕ) (olds news : List (PlainLog D))
    → Moved i R olds news → Moved (suc (suc i)) S (disks_in m olds) (disks_in m news)
all_moved R S has m i olds news moved = (refl, (refl, moved_mapped disk_of R S has i olds news moved))

pub writes_no_byte : (s : DiskState) → WritesNone s s
writes_no_byte s = record { size = refl; seen = refl; images = λ image left. left }

pub all_write_none : {D : Type 0} (state : D → DiskState) (R : PlainLog D → PlainLog D → Type 0) → ((old new : PlainLog D) → R old new → WritesNone (state old.disk) (state new.disk)) → (m : PlainPair D) (i : ℕ) (olds news : List (PlainLog D))
    → Moved i R olds news → WriteNone state (disks_in m olds) (disks_in m news)
all_write_none state R has m i olds news moved = (
  writes_no_byte (state (first_disk m)),
  (
    writes_no_byte (state (second_disk m)),
    moved_pairs disk_of R (λ d e. WritesNone (state d) (state e)) (λ d. writes_no_byte (state d)) has i olds news moved,
  ),
)

-- its outline
pub outlines_moved : {D : Type 0} (R : PlainLog D → PlainLog D → Type 0) (F : SlotOutline → SlotOutline → SlotOutline) → ((old new : PlainLog D) → R old new → outline_of new ≡ F (outline_of old) (outline_of new))
    → (i : ℕ) (olds news : List (PlainLog D)) → Moved i R olds news
    → map outline_of news ≡ slice_set (map outline_of olds) i (F (slot_at (map outline_of olds) i) (slot_at (map outline_of news) i))
outlines_moved R F has i olds news moved =
    moved_map outline_of no_slot R i olds news moved
    ∙ ap (slice_set (map outline_of olds) i) (moved_at outline_of outline_of no_slot (λ x y. y ≡ F x y) R has i olds news moved)

-- its records
pub lists_moved : {D : Type 0} (R : PlainLog D → PlainLog D → Type 0) (F : List (List ℕ) → List (List ℕ)) → ((old new : PlainLog D) → R old new → new.payloads ≡ F old.payloads)
    → (i : ℕ) (olds news : List (PlainLog D)) → Moved i R olds news
    → map payloads_of (map outline_of news) ≡ slice_set (map payloads_of (map outline_of olds)) i (F (get_or (map payloads_of (map outline_of olds)) i []))
lists_moved R F has i olds news moved =
    let slots = moved_mapped outline_of R (λ x y. y.payloads ≡ F x.payloads) has i olds news moved in
    moved_map payloads_of [] (λ x y. y.payloads ≡ F x.payloads) i (map outline_of olds) (map outline_of news) slots
    ∙ ap (slice_set (map payloads_of (map outline_of olds)) i)
    (moved_at payloads_of payloads_of [] (λ x y. y ≡ F x) (λ x y. y.payloads ≡ F x.payloads) (λ x y e. e) i (map outline_of olds) (map outline_of news) slots)

-- its bytes
pub bytes_moved : {D : Type 0} (state : D → DiskState) (R : PlainLog D → PlainLog D → Type 0) (W : SlotOutline → List ℕ → List ℕ) → ((old new : PlainLog D) → R old new → (state new.disk).seen ≡ W (outline_of old) (state old.disk).seen)
    → (i : ℕ) (olds news : List (PlainLog D)) → Moved i R olds news
    → seen_of state (map disk_of news)
    ≡ slice_set (seen_of state (map disk_of olds)) i (W (slot_at (map outline_of olds) i) (slice_index_or (seen_of state (map disk_of olds)) i []))
bytes_moved state R W has i [] news m = absurd m
bytes_moved state R W has i (old ∷ olds) [] m = absurd m
bytes_moved state R W has zero (old ∷ olds) (new ∷ news) m =
    ap (λ v. v ∷ seen_of state (map disk_of news)) (has old new m.0) ∙ ap (λ l. W (outline_of old) (state old.disk).seen ∷ seen_of state (map disk_of l)) m.1
bytes_moved state R W has (suc i) (old ∷ olds) (new ∷ news) m =
    ap (λ l. (state l.disk).seen ∷ seen_of state (map disk_of news)) m.0 ∙ ap (λ l. (state old.disk).seen ∷ l) (bytes_moved state R W has i olds news m.1)

-- what is told of its outline and its bytes
pub told_moved : {D : Type 0} (state : D → DiskState) (R : PlainLog D → PlainLog D → Type 0) (P : SlotOutline → List ℕ → Type 0) → ((old new : PlainLog D) → R old new → P (outline_of old) (state old.disk).seen)
    → (i : ℕ) (olds news : List (PlainLog D)) → Moved i R olds news → P (slot_at (map outline_of olds) i) (slice_index_or (seen_of state (map disk_of olds)) i [])
told_moved state R P has i [] news m = absurd m
told_moved state R P has i (old ∷ olds) [] m = absurd m
told_moved state R P has zero (old ∷ olds) (new ∷ news) m = has old new m.0
told_moved state R P has (suc i) (old ∷ olds) (new ∷ news) m = told_moved state R P has i olds news m.1
