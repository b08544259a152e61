-- What a mount would read from images of all disks.
use Rattle.std.proofs.Common.{◌≡◌, ◌⊎◌, inl, inr, ℕ, zero, suc, ◌&&◌, Bool, true, false, IsTrue, List, [], ◌∷◌, ◌++◌, map, get_or, slice_set, refl, sym, ap, subst, ◌∙◌}
use Rattle.std.proofs.lemmas.Bool.{true≢false}
use Rattle.outside.specs.Along.{left_between}
use Rattle.outside.specs.DiskModel.{DiskState}
use Rattle.gated_log.specs.PlainLog.{AtRest, HasList, InDoubt, Lost, PlainLog, Standing, is_in_doubt, with_doubted}
use Rattle.gated_log.specs.Records.{records}
use Rattle.gated_log.specs.Stands.{IsBeforeOrAfter}
use Rattle.pair_log.specs.declared.doubt.Doubt.TheVariants.{Nothing}
use Rattle.pair_log.specs.declared.side.Side.{Side}
use Rattle.pair_log.specs.declared.side.Side.TheVariants.{First, Second}
use Rattle.pair_log.specs.Epochs.{read_pair}
use Rattle.pair_log.specs.PlainPair as pair
use Rattle.pair_log.specs.PlainPair.{HasEither, PlainPair, after_doubt, after_of, first_disk, second_disk}
use Rattle.pair_log.specs.Sides.{first_of, second_of}
use Rattle.shard_disks.specs.Images.{AllRead, MayLeaveAll, WithinAll, stays_now, tell_all}
use Rattle.shard_disks.specs.Lists.{EachHas, HasAt, Moved, Pairwise, PairwiseBut}
use Rattle.shard_disks.specs.Outline.{Reads, payloads_after, payloads_of, reads_in}
use Rattle.shard_disks.specs.PlainDisks.{disk_of, disks_in, outline_of}
use Rattle.shard_disks.specs.Stands.{IsDoubted, RestsNow}

-- ---- which disks tell

pub both_true : (a b : Bool) → IsTrue (a && b) → IsTrue a × IsTrue b
both_true true b t = (refl, t)
both_true false b t = absurd (true≢false (sym t))

pub told_of : {D : Type 0} (state : D → DiskState) (side : Side) (a b : D) → IsTrue (state (first_of side a b)).tells → IsTrue (state (second_of side a b)).tells
    → IsTrue (state a).tells × IsTrue (state b).tells
told_of state First a b first second = (first, second)
told_of state Second a b first second = (second, first)

-- the lists of records, without and with what is in doubt
abbrev pub lists : {D : Type 0} → List (PlainLog D) → List (List (List ℕ))
lists logs = map payloads_of (map outline_of logs)

abbrev pub lists_after : {D : Type 0} → List (PlainLog D) → List (List (List ℕ))
lists_after logs = map payloads_after (map outline_of logs)

abbrev pub ReadsSame : {D : Type 0} → PlainLog D → List ℕ → Type 0
ReadsSame log image = records image ≡ log.payloads

-- ---- what images read as, log by log

pub pairs_read : {D : Type 0} (logs : List (PlainLog D)) (images : List (List ℕ)) → Pairwise ReadsSame logs images → map records images ≡ lists logs
pairs_read [] [] p = refl
pairs_read [] (x ∷ xs) p = absurd p
pairs_read (log ∷ logs) [] p = absurd p
pairs_read (log ∷ logs) (x ∷ xs) p = ap (λ v. v ∷ map records xs) p.0 ∙ ap (λ l. log.payloads ∷ l) (pairs_read logs xs p.1)

pub but_same : {D : Type 0} (i : ℕ) (logs : List (PlainLog D)) (images : List (List ℕ)) → PairwiseBut i ReadsSame ReadsSame logs images → map records images ≡ lists logs
but_same i [] images p = absurd p
but_same i (log ∷ logs) [] p = absurd p
but_same zero (log ∷ logs) (x ∷ xs) p = pairs_read (log ∷ logs) (x ∷ xs) p
but_same (suc i) (log ∷ logs) (x ∷ xs) p = ap (λ v. v ∷ map records xs) p.0 ∙ ap (λ l. log.payloads ∷ l) (but_same i logs xs p.1)

-- behind a list that is read either way
either_behind : (x : List (List ℕ)) (l before after : List (List (List ℕ))) → (l ≡ before) ⊎ (l ≡ after) → (x ∷ l ≡ x ∷ before) ⊎ (x ∷ l ≡ x ∷ after)
either_behind x l before after (inl e) = inl (ap (λ k. x ∷ k) e)
either_behind x l before after (inr e) = inr (ap (λ k. x ∷ k) e)

either_before : (x a b : List (List ℕ)) (l before : List (List (List ℕ))) → l ≡ before → (x ≡ a) ⊎ (x ≡ b) → (x ∷ l ≡ a ∷ before) ⊎ (x ∷ l ≡ b ∷ before)
either_before x a b l before e (inl f) = inl (ap (λ k. x ∷ k) e ∙ ap (λ k. k ∷ before) f)
either_before x a b l before e (inr f) = inr (ap (λ k. x ∷ k) e ∙ ap (λ k. k ∷ before) f)

either_here : (x y a b : List (List ℕ)) (l before : List (List (List ℕ))) → y ≡ x → (x ∷ l ≡ a ∷ before) ⊎ (x ∷ l ≡ b ∷ before) → (y ∷ l ≡ a ∷ before) ⊎ (y ∷ l ≡ b ∷ before)
either_here x y a b l before e (inl f) = inl (ap (λ k. k ∷ l) e ∙ f)
either_here x y a b l before e (inr f) = inr (ap (λ k. k ∷ l) e ∙ f)

-- one of them with one more record, or without it
pub but_record : {D : Type 0} (payload : List ℕ) (i : ℕ) (logs : List (PlainLog D)) (images : List (List ℕ))
    → PairwiseBut i (λ (log : PlainLog D) image. IsBeforeOrAfter log.payloads payload image) ReadsSame logs images
    → (map records images ≡ lists logs) ⊎ (map records images ≡ slice_set (lists logs) i (get_or (lists logs) i [] ++ payload ∷ []))
but_record payload i [] images p = absurd p
but_record payload i (log ∷ logs) [] p = absurd p
but_record payload zero (log ∷ logs) (x ∷ xs) p =
    either_before (records x) log.payloads (log.payloads ++ payload ∷ []) (map records xs) (lists logs) (pairs_read logs xs p.1) p.0
but_record payload (suc i) (log ∷ logs) (x ∷ xs) p =
    moved_either (records x) log.payloads (map records xs) (lists logs) (slice_set (lists logs) i (get_or (lists logs) i [] ++ payload ∷ [])) p.0 (but_record payload i logs xs p.1)
  where
    moved_either : (a b : List (List ℕ)) (l before after : List (List (List ℕ))) → a ≡ b → (l ≡ before) ⊎ (l ≡ after) → (a ∷ l ≡ b ∷ before) ⊎ (a ∷ l ≡ b ∷ after)
    moved_either a b l before after e h = subst (λ k. (a ∷ l ≡ k ∷ before) ⊎ (a ∷ l ≡ k ∷ after)) e (either_behind a l before after h)

either_doubted : (standing : Standing) (payloads : List (List ℕ)) (image : List ℕ) → is_in_doubt standing ≡ true → HasList standing payloads image
    → (records image ≡ payloads) ⊎ (records image ≡ with_doubted standing payloads)
either_doubted (InDoubt payload) payloads image doubted has = has
either_doubted AtRest payloads image doubted has = inl has
either_doubted Lost payloads image doubted has = let e : false ≡ true = doubted in cc

pub rests_after : {D : Type 0} (log : PlainLog D) → RestsNow log → payloads_after (outline_of log) ≡ log.payloads
rests_after log rests = ap (λ s. with_doubted s log.payloads) rests

pub all_rest : {D : Type 0} (logs : List (PlainLog D)) → EachHas RestsNow logs → lists_after logs ≡ lists logs
all_rest [] rest = refl
all_rest (log ∷ logs) rest = ap (λ v. v ∷ lists_after logs) (rests_after log rest.0) ∙ ap (λ l. log.payloads ∷ l) (all_rest logs rest.1)

-- one of them in doubt
pub but_doubted : {D : Type 0} (i : ℕ) (logs : List (PlainLog D)) (images : List (List ℕ)) → HasAt i IsDoubted RestsNow logs
    → PairwiseBut i (λ (log : PlainLog D) image. HasList log.standing log.payloads image) ReadsSame logs images
    → (map records images ≡ lists logs) ⊎ (map records images ≡ lists_after logs)
but_doubted i [] images h p = absurd p
but_doubted i (log ∷ logs) [] h p = absurd p
but_doubted zero (log ∷ logs) (x ∷ xs) h p =
    subst (λ l. (records x ∷ map records xs ≡ log.payloads ∷ lists logs) ⊎ (records x ∷ map records xs ≡ payloads_after (outline_of log) ∷ l)) (sym (all_rest logs h.1))
    (either_before (records x) log.payloads (payloads_after (outline_of log)) (map records xs) (lists logs) (pairs_read logs xs p.1) (either_doubted log.standing log.payloads x h.0 p.0))
but_doubted (suc i) (log ∷ logs) (x ∷ xs) h p =
    subst (λ v. (records x ∷ map records xs ≡ log.payloads ∷ lists logs) ⊎ (records x ∷ map records xs ≡ v ∷ lists_after logs)) (sym (rests_after log h.0))
    (subst (λ v. (records x ∷ map records xs ≡ v ∷ lists logs) ⊎ (records x ∷ map records xs ≡ v ∷ lists_after logs)) p.0
    (either_behind (records x) (map records xs) (lists logs) (lists_after logs) (but_doubted i logs xs h.1 p.1)))

module _ {D : Type 0} (state : D → DiskState) where
  pub told_each : (logs : List (PlainLog D)) → IsTrue (tell_all state (map disk_of logs)) → EachHas (λ log. IsTrue (state log.disk).tells) logs
  told_each [] t = tt
  told_each (log ∷ logs) t =
      let both = both_true (state log.disk).tells (tell_all state (map disk_of logs)) t in
      (both.0, told_each logs both.1)

  -- the two of the manifest, and those of the slots
  pub told_both : (m : PlainPair D) (logs : List (PlainLog D)) → IsTrue (tell_all state (disks_in m logs)) → pair.Told state m × EachHas (λ log. IsTrue (state log.disk).tells) logs
  told_both m logs t =
      let first = both_true (state (first_disk m)).tells (tell_all state (second_disk m ∷ map disk_of logs)) t in
      let second = both_true (state (second_disk m)).tells (tell_all state (map disk_of logs)) first.1 in
      (told_of state m.side m.active.disk m.standby.disk first.0 second.0, told_each logs second.1)

  -- ---- what a crash may leave now

  pub leave_each : (R : PlainLog D → List ℕ → Type 0) (B : PlainLog D → Type 0) → ((log : PlainLog D) (image : List ℕ) → B log → (state log.disk).may_leave image → R log image)
      → (logs : List (PlainLog D)) (images : List (List ℕ)) → EachHas B logs → MayLeaveAll state (map disk_of logs) images → Pairwise R logs images
  leave_each R B r [] [] h left = tt
  leave_each R B r [] (x ∷ xs) h left = absurd left
  leave_each R B r (log ∷ logs) [] h left = absurd left
  leave_each R B r (log ∷ logs) (x ∷ xs) h left = (r log x h.0 left.0, leave_each R B r logs xs h.1 left.1)

  pub leave_but : (Q R : PlainLog D → List ℕ → Type 0) (A B : PlainLog D → Type 0)
      → ((log : PlainLog D) (image : List ℕ) → A log → (state log.disk).may_leave image → Q log image)
      → ((log : PlainLog D) (image : List ℕ) → B log → (state log.disk).may_leave image → R log image)
      → (i : ℕ) (logs : List (PlainLog D)) (images : List (List ℕ)) → HasAt i A B logs → MayLeaveAll state (map disk_of logs) images → PairwiseBut i Q R logs images
  leave_but Q R A B q r i [] images h left = absurd h
  leave_but Q R A B q r i (log ∷ logs) [] h left = absurd left
  leave_but Q R A B q r zero (log ∷ logs) (x ∷ xs) h left = (q log x h.0 left.0, leave_each R B r logs xs h.1 left.1)
  leave_but Q R A B q r (suc i) (log ∷ logs) (x ∷ xs) h left = (r log x h.0 left.0, leave_but Q R A B q r i logs xs h.1 left.1)

  -- what two images of the manifest read as, where nothing is in doubt
  pub manifest_reads : (m : PlainPair D) → HasEither state m → m.doubt ≡ Nothing → pair.Told state m → (a b : List ℕ)
      → (state (first_disk m)).may_leave a → (state (second_disk m)).may_leave b → read_pair a b ≡ m.active.payloads
  manifest_reads m has rests told a b left right = either_way (has told a b left right)
    where
      same : after_doubt m ≡ m.active.payloads
      same = ap (λ d. after_of d m.active.payloads m.active.standing m.standby.standing) rests

      either_way : pair.IsEither m.active.payloads (after_doubt m) (read_pair a b) → read_pair a b ≡ m.active.payloads
      either_way (inl e) = e
      either_way (inr e) = e ∙ same

  -- and all images
  pub leave_reads : (P : Reads → Type 0) (m : PlainPair D) (logs : List (PlainLog D)) → HasEither state m → m.doubt ≡ Nothing → pair.Told state m
      → ((images : List (List ℕ)) → MayLeaveAll state (map disk_of logs) images → P (record { manifest = m.active.payloads; slots = map records images }))
      → AllRead state (disks_in m logs) P
  leave_reads P m logs has rests told slots [] left = absurd left
  leave_reads P m logs has rests told slots (a ∷ []) left = absurd left.1
  leave_reads P m logs has rests told slots (a ∷ (b ∷ images)) left =
      subst (λ l. P (record { manifest = l; slots = map records images })) (sym (manifest_reads m has rests told a b left.0 left.1.0)) (slots images left.1.1)

module _ {D : Type 0} (state : D → DiskState) (only : (disk : D) (image : List ℕ) → (state disk).left_since (state disk).calls image → (state disk).may_leave image) where
  stays_each : (R : PlainLog D → List ℕ → Type 0) (B : PlainLog D → Type 0) → ((log : PlainLog D) (image : List ℕ) → B log → (state log.disk).may_leave image → R log image)
      → (logs : List (PlainLog D)) (images : List (List ℕ)) → EachHas B logs → WithinAll state (map disk_of logs) (map disk_of logs) images → Pairwise R logs images
  stays_each R B r [] [] h w = tt
  stays_each R B r [] (x ∷ xs) h w = absurd w
  stays_each R B r (log ∷ logs) [] h w = absurd w
  stays_each R B r (log ∷ logs) (x ∷ xs) h w = (r log x h.0 (only log.disk x w.0), stays_each R B r logs xs h.1 w.1)

  -- one log moves, and the others stay
  pub within_but : (Q R : PlainLog D → List ℕ → Type 0) (A B : PlainLog D → Type 0) (T : PlainLog D → PlainLog D → Type 0)
      → ((old new : PlainLog D) (image : List ℕ) → A old → T old new → left_between state old.disk new.disk image → Q old image)
      → ((log : PlainLog D) (image : List ℕ) → B log → (state log.disk).may_leave image → R log image)
      → (i : ℕ) (olds news : List (PlainLog D)) (images : List (List ℕ)) → HasAt i A B olds → Moved i T olds news
      → WithinAll state (map disk_of olds) (map disk_of news) images → PairwiseBut i Q R olds images
  within_but Q R A B T q r i [] news images h m w = absurd h
  within_but Q R A B T q r i (old ∷ olds) [] images h m w = absurd m
  within_but Q R A B T q r i (old ∷ olds) (new ∷ news) [] h m w = absurd w
  within_but Q R A B T q r zero (old ∷ olds) (new ∷ news) (x ∷ xs) h m w =
      (q old new x h.0 m.0 w.0, stays_each R B r olds xs h.1 (subst (λ l. WithinAll state (map disk_of olds) (map disk_of l) xs) m.1 w.1))
  within_but Q R A B T q r (suc i) (old ∷ olds) (new ∷ news) (x ∷ xs) h m w =
      (r old x h.0 (only old.disk x (subst (λ (l : PlainLog D). left_between state old.disk l.disk x) m.0 w.0)), within_but Q R A B T q r i olds news xs h.1 m.1 w.1)

  -- the manifest stays
  pub within_reads : (P : Reads → Type 0) (m : PlainPair D) (olds news : List (PlainLog D)) → HasEither state m → m.doubt ≡ Nothing → pair.Told state m
      → ((images : List (List ℕ)) → WithinAll state (map disk_of olds) (map disk_of news) images → P (record { manifest = m.active.payloads; slots = map records images }))
      → (images : List (List ℕ)) → WithinAll state (disks_in m olds) (disks_in m news) images → P (reads_in images)
  within_reads P m olds news has rests told slots [] w = absurd w
  within_reads P m olds news has rests told slots (a ∷ []) w = absurd w.1
  within_reads P m olds news has rests told slots (a ∷ (b ∷ images)) w =
      subst (λ l. P (record { manifest = l; slots = map records images })) (sym (manifest_reads state m has rests told a b (only (first_disk m) a w.0) (only (second_disk m) b w.1.0))) (slots images w.1.1)

  -- the manifest moves, and the slots stay
  pub within_pair : (m n : PlainPair D) (logs : List (PlainLog D)) (R : List (List ℕ) → Type 0) (P : Reads → Type 0)
      → ((a b : List ℕ) → left_between state (first_disk m) (first_disk n) a → left_between state (second_disk m) (second_disk n) b → R (read_pair a b))
      → ((list : List (List ℕ)) (images : List (List ℕ)) → R list → MayLeaveAll state (map disk_of logs) images → P (record { manifest = list; slots = map records images }))
      → (images : List (List ℕ)) → WithinAll state (disks_in m logs) (disks_in n logs) images → P (reads_in images)
  within_pair m n logs R P pair slots [] w = absurd w
  within_pair m n logs R P pair slots (a ∷ []) w = absurd w.1
  within_pair m n logs R P pair slots (a ∷ (b ∷ images)) w = slots (read_pair a b) images (pair a b w.0 w.1.0) (stays_now state only (map disk_of logs) images w.1.1)
