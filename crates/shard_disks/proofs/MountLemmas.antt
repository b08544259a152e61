-- The logs of all slots are mounted: what they hold then, and what a crash leaves meanwhile.
use Rattle.std.proofs.Common.{◌≡◌, ◌⊎◌, inl, inr, ℕ, zero, suc, ◌-◌, ◌^◌, ◌≤◌, Bool, true, false, if◌then◌else◌, IsTrue, List, [], ◌∷◌, length, map, None, Option, Some, refl, sym, ap, subst, ◌∙◌, arith}
use Rattle.outside.specs.DiskModel.{DiskState, LeavesOnly}
use Rattle.gated_log.specs.Calls.{ImagesHave, IsRepaired}
use Rattle.gated_log.specs.Closing.{with_gate}
use Rattle.gated_log.specs.PlainLog.{AllHave, PlainLog, end_of}
use Rattle.gated_log.specs.Records.{Front, and_front, front_record, records, records_within, rest_of}
use Rattle.pair_log.specs.declared.side.Side.{Side}
use Rattle.pair_log.specs.declared.side.Side.TheVariants.{First, Second}
use Rattle.pair_log.specs.Epochs.{active_records, epoch_of, is_later, read_pair, second_counts}
use Rattle.pair_log.specs.Mounted.{AreMounting, IsBeginning, IsMounting, begun, first_record, or_first}
use Rattle.pair_log.specs.Sides.{first_of, second_of}
use Rattle.shard_disks.specs.Images.{MayLeaveAll, WithinAll, faults_of, seen_of, tell_all, tells_of}
use Rattle.shard_disks.specs.Lists.{EachHas, Pairwise}
use Rattle.shard_disks.specs.Mounting.{AllSinceFirst, IsLogMounted, ReadsAsBefore, closed}
use Rattle.shard_disks.specs.Outline.{Reads, payloads_of, reads_in, with_first}
use Rattle.shard_disks.specs.PlainDisks.{disk_of, outline_of}
use Rattle.shard_disks.specs.Stands.{IsCounted, RestsNow}
use Rattle.shard_disks.proofs.ImageLemmas.{both_true, lists}

-- ---- lists

pub pairs_with : {A B : Type 0} (R : A → B → Type 0) (P : A → Type 0) (xs : List A) (ys : List B) → Pairwise R xs ys → EachHas P xs → Pairwise (λ x y. R x y × P x) xs ys
pairs_with R P [] [] p h = tt
pairs_with R P [] (y ∷ ys) p h = absurd p
pairs_with R P (x ∷ xs) [] p h = absurd p
pairs_with R P (x ∷ xs) (y ∷ ys) p h = ((p.0, h.0), pairs_with R P xs ys p.1 h.1)

pub pairs_each : {A B : Type 0} (R : A → B → Type 0) (P : B → Type 0) → ((x : A) (y : B) → R x y → P y) → (xs : List A) (ys : List B) → Pairwise R xs ys → EachHas P ys
pairs_each R P has [] [] p = tt
pairs_each R P has [] (y ∷ ys) p = absurd p
pairs_each R P has (x ∷ xs) [] p = absurd p
pairs_each R P has (x ∷ xs) (y ∷ ys) p = (has x y p.0, pairs_each R P has xs ys p.1)

pub pairs_length : {A B : Type 0} (R : A → B → Type 0) (xs : List A) (ys : List B) → Pairwise R xs ys → length ys ≡ length xs
pairs_length R [] [] p = refl
pairs_length R [] (y ∷ ys) p = absurd p
pairs_length R (x ∷ xs) [] p = absurd p
pairs_length R (x ∷ xs) (y ∷ ys) p = ap suc (pairs_length R xs ys p.1)

pub pairs_mapped : {A B C : Type 0} (f : B → C) (R : A → B → Type 0) (Q : A → C → Type 0) → ((x : A) (y : B) → R x y → Q x (f y)) → (xs : List A) (ys : List B) → Pairwise R xs ys → Pairwise Q xs (map f ys)
pairs_mapped f R Q has [] [] p = tt
pairs_mapped f R Q has [] (y ∷ ys) p = absurd p
pairs_mapped f R Q has (x ∷ xs) [] p = absurd p
pairs_mapped f R Q has (x ∷ xs) (y ∷ ys) p = (has x y p.0, pairs_mapped f R Q has xs ys p.1)

-- a function of what the one has is a function of the other
pub pairs_lists : {A B C E : Type 0} (h : B → C) (v : C → E) (u : A → E) (R : A → B → Type 0) → ((x : A) (y : B) → R x y → v (h y) ≡ u x) → (xs : List A) (ys : List B) → Pairwise R xs ys → map v (map h ys) ≡ map u xs
pairs_lists h v u R same [] [] p = refl
pairs_lists h v u R same [] (y ∷ ys) p = absurd p
pairs_lists h v u R same (x ∷ xs) [] p = absurd p
pairs_lists h v u R same (x ∷ xs) (y ∷ ys) p = ap (λ e. e ∷ map v (map h ys)) (same x y p.0) ∙ ap (λ l. u x ∷ l) (pairs_lists h v u R same xs ys p.1)

pub map_of_map : {A B C : Type 0} (g : B → C) (f : A → B) (xs : List A) → map (λ x. g (f x)) xs ≡ map g (map f xs)
map_of_map g f [] = refl
map_of_map g f (x ∷ xs) = ap (λ l. g (f x) ∷ l) (map_of_map g f xs)

pub reads_three : {x y : List (List ℕ)} {l k : List (List (List ℕ))} → x ≡ y → l ≡ k → (let r : Reads = record { manifest = x; slots = l } in r) ≡ record { manifest = y; slots = k }
reads_three {y = y} {l = l} e f = ap (λ v. record { manifest = v; slots = l }) e ∙ ap (λ v. record { manifest = y; slots = v }) f

-- ---- which disks tell

module _ {D : Type 0} (state : D → DiskState) where
  pub told_each : (disks : List D) → IsTrue (tell_all state disks) → EachHas (λ disk. IsTrue (state disk).tells) disks
  told_each [] t = tt
  told_each (disk ∷ disks) t =
      let both = both_true (state disk).tells (tell_all state disks) t in
      (both.0, told_each disks both.1)

  pub told_three : (first second : D) (rest : List D) → IsTrue (tell_all state (first ∷ (second ∷ rest)))
      → IsTrue (state first).tells × IsTrue (state second).tells × EachHas (λ disk. IsTrue (state disk).tells) rest
  told_three first second rest t =
      let all = told_each (first ∷ (second ∷ rest)) t in
      (all.0, all.1.0, all.1.1)

  pub told_turned : (side : Side) (a b : D) → IsTrue (state a).tells → IsTrue (state b).tells → IsTrue (state (first_of side a b)).tells × IsTrue (state (second_of side a b)).tells
  told_turned First a b first second = (first, second)
  told_turned Second a b first second = (second, first)

-- ---- the records can be counted

and_front_few : (front : Option Front) (later : List (List ℕ)) (n : ℕ) → length later ≤ n → length (and_front front later) ≤ suc n
and_front_few None later n h = omega arith
and_front_few (Some front) later n h = omega (arith, h)

few_within : (n : ℕ) (bytes : List ℕ) → length (records_within n bytes) ≤ n
few_within zero bytes = omega arith
few_within (suc n) bytes = and_front_few (front_record bytes) (records_within n (rest_of (front_record bytes))) n (few_within n (rest_of (front_record bytes)))

few_active : (most : ℕ) (first second : List (List ℕ)) → length first ≤ most → length second ≤ most → length (active_records first second) ≤ most
few_active most first second a b = by (second_counts first second)
  where
    by : (counts : Bool) → length (if counts then second else first) ≤ most
    by true = b
    by false = a

counted_first : (snapshot : List ℕ) (list : List (List ℕ)) → length list ≤ 2 ^ 64 - 1 → IsCounted (or_first snapshot list)
counted_first snapshot [] h = record { some = omega arith; few = omega arith }
counted_first snapshot (x ∷ list) h = record { some = omega arith; few = h }

pub counted_pair : (snapshot first second : List ℕ) → length first ≤ 2 ^ 64 - 1 → length second ≤ 2 ^ 64 - 1 → IsCounted (or_first snapshot (read_pair first second))
counted_pair snapshot first second a b =
    let few_first : length (records first) ≤ length first = few_within (length first) first in
    let few_second : length (records second) ≤ length second = few_within (length second) second in
    counted_first snapshot (read_pair first second) (few_active (2 ^ 64 - 1) (records first) (records second) (omega (arith, few_first, a)) (omega (arith, few_second, b)))

-- ---- the manifest, while it is mounted

-- once the first disk has its first record, the list that counts is the one of before or the one with it
begun_or : (snapshot : List ℕ) (first second other : List (List ℕ))
    → (active_records (begun snapshot first second) other ≡ active_records first other) ⊎ (active_records (begun snapshot first second) other ≡ or_first snapshot (active_records first second))
begun_or snapshot [] [] [] = inr refl
begun_or snapshot [] [] (y ∷ ys) = by (is_later (epoch_of (first_record snapshot)) (epoch_of y))
  where
    by : (b : Bool) → ((if b then y ∷ ys else first_record snapshot ∷ []) ≡ y ∷ ys) ⊎ ((if b then y ∷ ys else first_record snapshot ∷ []) ≡ first_record snapshot ∷ [])
    by true = inl refl
    by false = inr refl
begun_or snapshot [] (z ∷ zs) other = inl refl
begun_or snapshot (x ∷ xs) [] other = inl refl
begun_or snapshot (x ∷ xs) (z ∷ zs) other = inl refl

-- two images read as two of the start, or as these with the first snapshot
pub record PairBefore (first second : DiskState) (snapshot : List ℕ) (list : List (List ℕ)) : Type 0 where
  pub first_before : List ℕ
  pub second_before : List ℕ
  pub first_left : first.may_leave first_before
  pub second_left : second.may_leave second_before
  pub reads : (list ≡ read_pair first_before second_before) ⊎ (list ≡ or_first snapshot (read_pair first_before second_before))

pub pair_before : (first second : DiskState) (snapshot : List ℕ) → first.may_leave first.seen → second.may_leave second.seen → (a b : List ℕ) → AreMounting first second snapshot (a, b)
    → PairBefore first second snapshot (read_pair a b)
pair_before first second snapshot first_now second_now a b mounting = by mounting.0 mounting.1
  where
    by_begun : records a ≡ begun snapshot (records first.seen) (records second.seen) → IsMounting second.may_leave (records second.seen) b
        → (active_records (begun snapshot (records first.seen) (records second.seen)) (records b) ≡ active_records (records first.seen) (records b))
        ⊎ (active_records (begun snapshot (records first.seen) (records second.seen)) (records b) ≡ or_first snapshot (active_records (records first.seen) (records second.seen)))
        → PairBefore first second snapshot (read_pair a b)
    by_begun e (inl left) (inl same) = record { first_before = first.seen; second_before = b; first_left = first_now; second_left = left; reads = inl (ap (λ l. active_records l (records b)) e ∙ same) }
    by_begun e (inr f) (inl same) = record {
      first_before = first.seen;
      second_before = second.seen;
      first_left = first_now;
      second_left = second_now;
      reads = inl (ap (λ l. active_records l (records b)) e ∙ (same ∙ ap (active_records (records first.seen)) f));
    }
    by_begun e other (inr same) = record { first_before = first.seen; second_before = second.seen; first_left = first_now; second_left = second_now; reads = inr (ap (λ l. active_records l (records b)) e ∙ same) }

    by : IsBeginning first.may_leave (records first.seen) (records second.seen) snapshot a → IsMounting second.may_leave (records second.seen) b → PairBefore first second snapshot (read_pair a b)
    by (inl left) (inl right) = record { first_before = a; second_before = b; first_left = left; second_left = right; reads = inl refl }
    by (inl left) (inr f) = record { first_before = a; second_before = second.seen; first_left = left; second_left = second_now; reads = inl (ap (active_records (records a)) f) }
    by (inr (inl e)) (inl right) = record { first_before = first.seen; second_before = b; first_left = first_now; second_left = right; reads = inl (ap (λ l. active_records l (records b)) e) }
    by (inr (inl e)) (inr f) = record {
      first_before = first.seen;
      second_before = second.seen;
      first_left = first_now;
      second_left = second_now;
      reads = inl (ap (λ l. active_records l (records b)) e ∙ ap (active_records (records first.seen)) f);
    }
    by (inr (inr e)) other = by_begun e other (begun_or snapshot (records first.seen) (records second.seen) (records b))

-- ---- the slots, while they are mounted

pub record SlotsBefore {D : Type 0} (state : D → DiskState) (disks : List D) (lists_read : List (List (List ℕ))) : Type 0 where
  pub before : List (List ℕ)
  pub left : MayLeaveAll state disks before
  pub reads : lists_read ≡ map records before

-- a disk is mounted or refused, or nothing is done to it: what it might have left meanwhile
abbrev pub Remounts : {D : Type 0} → (D → DiskState) → D → D → Type 0
Remounts state old new = LeavesOnly (state old) (state new) (IsMounting (state old).may_leave (records (state old).seen))

pub slots_before : {D : Type 0} (state : D → DiskState) (image_now : (disk : D) → IsTrue (state disk).tells → (state disk).may_leave (state disk).seen)
    → (disks now : List D) (images : List (List ℕ)) → EachHas (λ disk. IsTrue (state disk).tells) disks → Pairwise (Remounts state) disks now
    → WithinAll state disks now images → SlotsBefore state disks (map records images)
slots_before state image_now [] [] [] told p w = record { before = []; left = tt; reads = refl }
slots_before state image_now [] [] (x ∷ images) told p w = absurd w
slots_before state image_now [] (d ∷ now) images told p w = absurd p
slots_before state image_now (disk ∷ disks) [] images told p w = absurd p
slots_before state image_now (disk ∷ disks) (d ∷ now) [] told p w = absurd w
slots_before state image_now (disk ∷ disks) (d ∷ now) (x ∷ images) told p w = by (p.0.each x w.0) (slots_before state image_now disks now images told.1 p.1 w.1)
  where
    by : IsMounting (state disk).may_leave (records (state disk).seen) x → SlotsBefore state disks (map records images) → SlotsBefore state (disk ∷ disks) (records x ∷ map records images)
    by (inl left) s = record { before = x ∷ s.before; left = (left, s.left); reads = ap (λ l. records x ∷ l) s.reads }
    by (inr same) s = record { before = (state disk).seen ∷ s.before; left = (image_now disk told.0, s.left); reads = ap (λ v. v ∷ map records images) same ∙ ap (λ l. records (state disk).seen ∷ l) s.reads }

-- what may be left now is what might have been left since an earlier moment
pub slots_now : {D : Type 0} (state : D → DiskState) → ((disk : D) (t : ℕ) (image : List ℕ) → t ≤ (state disk).calls → (state disk).may_leave image → (state disk).left_since t image)
    → (disks now : List D) (images : List (List ℕ)) → Pairwise (Remounts state) disks now → MayLeaveAll state now images → WithinAll state disks now images
slots_now state counts [] [] [] p left = tt
slots_now state counts [] [] (x ∷ images) p left = absurd left
slots_now state counts [] (d ∷ now) images p left = absurd p
slots_now state counts (disk ∷ disks) [] images p left = absurd p
slots_now state counts (disk ∷ disks) (d ∷ now) [] p left = absurd left
slots_now state counts (disk ∷ disks) (d ∷ now) (x ∷ images) p left = (counts d (state disk).calls x p.0.later left.0, slots_now state counts disks now images p.1 left.1)

-- both of the manifest and the slots
pub both_before : {D : Type 0} (state : D → DiskState) (first second : D) (rest : List D) (snapshot a b : List ℕ) (images : List (List ℕ))
    → PairBefore (state first) (state second) snapshot (read_pair a b) → SlotsBefore state rest (map records images) → ReadsAsBefore state (first ∷ (second ∷ rest)) snapshot (a ∷ (b ∷ images))
both_before state first second rest snapshot a b images q s = record {
  before = q.first_before ∷ (q.second_before ∷ s.before);
  left = (q.first_left, (q.second_left, s.left));
  reads = by q.reads;
} where
  by : (read_pair a b ≡ read_pair q.first_before q.second_before) ⊎ (read_pair a b ≡ or_first snapshot (read_pair q.first_before q.second_before))
      → (reads_in (a ∷ (b ∷ images)) ≡ reads_in (q.first_before ∷ (q.second_before ∷ s.before))) ⊎ (reads_in (a ∷ (b ∷ images)) ≡ with_first snapshot (reads_in (q.first_before ∷ (q.second_before ∷ s.before))))
  by (inl e) = inl (reads_three e s.reads)
  by (inr e) = inr (reads_three e s.reads)

-- once the first call of each disk was done, images have the records of the start
pub slots_since : {D : Type 0} (state : D → DiskState) (disks now : List D) (images : List (List ℕ)) → Pairwise (λ d e. IsRepaired (state d) (state e)) disks now
    → AllSinceFirst state disks now images → map records images ≡ map records (seen_of state disks)
slots_since state [] [] [] p w = refl
slots_since state [] [] (x ∷ images) p w = absurd w
slots_since state [] (d ∷ now) images p w = absurd p
slots_since state (disk ∷ disks) [] images p w = absurd p
slots_since state (disk ∷ disks) (d ∷ now) [] p w = absurd w
slots_since state (disk ∷ disks) (d ∷ now) (x ∷ images) p w =
    ap (λ v. v ∷ map records images) (p.0 x w.0) ∙ ap (λ l. records (state disk).seen ∷ l) (slots_since state disks now images p.1 w.1)

-- ---- what the slots hold then

module _ {D : Type 0} (state : D → DiskState) (limit : ℕ) (disks : List D) (logs : List (PlainLog D)) (mounted : Pairwise (IsLogMounted state limit) disks logs) where
  pub all_tell : tells_of state (map disk_of logs) ≡ tells_of state disks
  all_tell = pairs_lists disk_of (λ d. (state d).tells) (λ d. (state d).tells) (IsLogMounted state limit) (λ d log m. m.mounting.tells) disks logs mounted

  pub all_arms : map (λ d. (state d).arms) (map disk_of logs) ≡ map (λ d. (state d).arms) disks
  all_arms = pairs_lists disk_of (λ d. (state d).arms) (λ d. (state d).arms) (IsLogMounted state limit) (λ d log m. m.mounting.arms) disks logs mounted

  pub all_faults : faults_of state (map disk_of logs) ≡ faults_of state disks
  all_faults = pairs_lists disk_of (λ d. (state d).faults) (λ d. (state d).faults) (IsLogMounted state limit) (λ d log m. m.faults) disks logs mounted

  pub all_rest : EachHas RestsNow logs
  all_rest = pairs_each (IsLogMounted state limit) RestsNow (λ d log m. m.rests) disks logs mounted

  pub all_have : EachHas (ImagesHave state) logs
  all_have = pairs_each (IsLogMounted state limit) (ImagesHave state) (λ d log m told. subst (λ s. AllHave s log.payloads (state log.disk).may_leave) (sym m.rests) (m.images (sym m.mounting.tells ∙ told))) disks logs mounted

  told_pairs : EachHas (λ d. IsTrue (state d).tells) disks → Pairwise (λ d log. IsLogMounted state limit d log × IsTrue (state d).tells) disks logs
  told_pairs told = pairs_with (IsLogMounted state limit) (λ d. IsTrue (state d).tells) disks logs mounted told

  pub all_lists : EachHas (λ d. IsTrue (state d).tells) disks → lists logs ≡ map records (seen_of state disks)
  all_lists told =
      pairs_lists outline_of payloads_of (λ d. records (state d).seen) (λ d log. IsLogMounted state limit d log × IsTrue (state d).tells) (λ d log m. m.0.list m.1) disks logs (told_pairs told)
      ∙ map_of_map records (λ d. (state d).seen) disks

  pub all_bytes : EachHas (λ d. IsTrue (state d).tells) disks → seen_of state (map disk_of logs) ≡ map closed (seen_of state disks)
  all_bytes told =
      pairs_lists disk_of (λ d. (state d).seen) (λ d. closed (state d).seen) (λ d log. IsLogMounted state limit d log × IsTrue (state d).tells)
      (λ d log m. m.0.bytes m.1 ∙ ap (λ n. with_gate n 0 (state d).seen) (m.0.end m.1 ∙ ap end_of (m.0.list m.1))) disks logs (told_pairs told)
      ∙ map_of_map closed (λ d. (state d).seen) disks

  pub all_ends : EachHas (λ d. IsTrue (state d).tells) disks → EachHas (λ (log : PlainLog D). log.end ≡ end_of log.payloads) logs
  all_ends told = pairs_each (λ d log. IsLogMounted state limit d log × IsTrue (state d).tells) (λ (log : PlainLog D). log.end ≡ end_of log.payloads) (λ d log m. m.0.end m.1) disks logs (told_pairs told)

  pub all_limits : EachHas (λ (log : PlainLog D). log.limit ≡ limit) logs
  all_limits = pairs_each (IsLogMounted state limit) (λ (log : PlainLog D). log.limit ≡ limit) (λ d log m. m.limit_kept) disks logs mounted

  pub all_move : EachHas (λ d. IsTrue (state d).tells) disks → Pairwise (Remounts state) disks (map disk_of logs)
  all_move told = pairs_mapped disk_of (λ d log. IsLogMounted state limit d log × IsTrue (state d).tells) (Remounts state) (λ d log m. m.0.mounting.moments m.1) disks logs (told_pairs told)

  -- once the first call of each disk was done, images read as the logs do
  pub all_since : EachHas (λ d. IsTrue (state d).tells) disks → (images : List (List ℕ)) → AllSinceFirst state disks (map disk_of logs) images → map records images ≡ lists logs
  all_since told images w =
      slots_since state disks (map disk_of logs) images
      (pairs_mapped disk_of (λ d log. IsLogMounted state limit d log × IsTrue (state d).tells) (λ d e. IsRepaired (state d) (state e)) (λ d log m. m.0.repaired m.1) disks logs (told_pairs told)) w
      ∙ sym (all_lists told)
