-- What images read as during a mount.
use Rattle.std.proofs.Common.{◌≡◌, ◌⊎◌, ℕ, ◌+◌, ◌≤◌, length, take, drop, ◌++◌, arith, length-append, Bool, true, false, if◌then◌else◌, IsTrue, List, [], ◌∷◌, inl, inr, refl, sym, ap, subst, ◌∙◌}
use Rattle.outside.specs.Along.{WithinBoth, keeps_and, keeps_weaker}
use Rattle.outside.specs.Cause.{Rose}
use Rattle.outside.specs.DiskModel.{DiskState, Torn}
use Rattle.outside.specs.Torn.{torn_written}
use Rattle.gated_log.specs.Calls.{with_record}
use Rattle.gated_log.specs.Records.{body_bytes, records}
use Rattle.pair_log.specs.declared.side.Side.{Side}
use Rattle.pair_log.specs.declared.side.Side.TheVariants.{First, Second}
use Rattle.pair_log.specs.Sides.{first_of, number_of, second_of}
use Rattle.pair_log.specs.Epochs.{active_records, epoch_of, is_later, read_pair}
use Rattle.pair_log.specs.Mounted.{AreMounting, IsBeginning, IsMountTorn, IsMounting, MountKeeps, begun, first_record, mounted_first, or_first, side_of}
use Rattle.pair_log.specs.PlainPair.{PlainPair, Told, both_disks, first_disk, second_disk}
use Rattle.session_journal.specs.declared.asked.Asked.{Asked}
use Rattle.session_journal.specs.Fold.{Folded, folded}
use Rattle.session_journal.specs.declared.unread.Unread.{Unread}
use Rattle.session_journal.specs.declared.unread.Unread.TheVariants as unread
use Rattle.session_journal.specs.Giving.{IsCause, IsWhy}
use Rattle.session_journal.specs.Mounting.{AreMountedFrom, IsMountBlamed, IsRefusal, MountHolds, Mounts, ReadsAsBefore, Refuses, RoseOn, disk_number, first_snapshot, refusal_of}
use Rattle.session_journal.specs.PairCalls.{IsRead}

-- with the first record where there was none, it reads as without it, or as what is mounted
begun_reads : (snapshot : List ℕ) (first second later : List (List ℕ)) →
    (active_records (begun snapshot first second) later ≡ active_records first later) ⊎ (active_records (begun snapshot first second) later ≡ or_first snapshot (active_records first second))
begun_reads snapshot [] [] [] = inr refl
begun_reads snapshot [] [] (x ∷ xs) = by (is_later (epoch_of (first_record snapshot)) (epoch_of x))
  where
    by : (b : Bool) → ((if b then x ∷ xs else first_record snapshot ∷ []) ≡ x ∷ xs) ⊎ ((if b then x ∷ xs else first_record snapshot ∷ []) ≡ first_record snapshot ∷ [])
    by true = inl refl
    by false = inr refl
begun_reads snapshot [] (y ∷ ys) later = inl refl
begun_reads snapshot (x ∷ xs) [] later = inl refl
begun_reads snapshot (x ∷ xs) (y ∷ ys) later = inl refl

-- an image of the second disk reads as one of the start did
record Before (images : List ℕ → Type 0) (image : List ℕ) : Type 0 where
  pub before : List ℕ
  pub left : images before
  pub same : records image ≡ records before

second_before : (disk : DiskState) → disk.may_leave disk.seen → (image : List ℕ) → IsMounting disk.may_leave (records disk.seen) image → Before disk.may_leave image
second_before disk now image (inl left) = record { before = image; left = left; same = refl }
second_before disk now image (inr same) = record { before = disk.seen; left = now; same = same }

both_before : (first second : List ℕ → Type 0) (images : List ℕ × List ℕ) → Before first images.0 → Before second images.1 → ReadsAsBefore first second images
both_before first second images one other = record {
  before = (one.before, other.before);
  first_left = one.left;
  second_left = other.left;
  reads = ap (λ r. active_records r (records images.1)) one.same ∙ ap (active_records (records one.before)) other.same;
}

pub mounting_reads : (first second : DiskState) (snapshot : List ℕ) → first.may_leave first.seen → second.may_leave second.seen
    → (images : List ℕ × List ℕ) → AreMounting first second snapshot images
    → ReadsAsBefore first.may_leave second.may_leave images ⊎ (read_pair images.0 images.1 ≡ or_first snapshot (read_pair first.seen second.seen))
mounting_reads first second snapshot first_now second_now images are = by are.0
  where
    other : Before second.may_leave images.1
    other = second_before second second_now images.1 are.1

    begins : records images.0 ≡ begun snapshot (records first.seen) (records second.seen)
        → (active_records (begun snapshot (records first.seen) (records second.seen)) (records images.1) ≡ active_records (records first.seen) (records images.1))
        ⊎ (active_records (begun snapshot (records first.seen) (records second.seen)) (records images.1) ≡ or_first snapshot (active_records (records first.seen) (records second.seen)))
        → ReadsAsBefore first.may_leave second.may_leave images ⊎ (read_pair images.0 images.1 ≡ or_first snapshot (read_pair first.seen second.seen))
    begins same (inl without) = inl (record {
      before = (first.seen, other.before);
      first_left = first_now;
      second_left = other.left;
      reads = ap (λ r. active_records r (records images.1)) same ∙ without ∙ ap (active_records (records first.seen)) other.same;
    })
    begins same (inr mounted) = inr (ap (λ r. active_records r (records images.1)) same ∙ mounted)

    by : IsBeginning first.may_leave (records first.seen) (records second.seen) snapshot images.0
        → ReadsAsBefore first.may_leave second.may_leave images ⊎ (read_pair images.0 images.1 ≡ or_first snapshot (read_pair first.seen second.seen))
    by (inl left) = inl (both_before first.may_leave second.may_leave images (record { before = images.0; left = left; same = refl }) other)
    by (inr (inl same)) = inl (both_before first.may_leave second.may_leave images (record { before = first.seen; left = first_now; same = same }) other)
    by (inr (inr same)) = begins same (begun_reads snapshot (records first.seen) (records second.seen) (records images.1))

-- a mount of the pair, and then reads
pub mount_holds : {D : Type 0} (state : D → DiskState) (first second : D) (asked : Asked) (held : Folded) (snapshot : List ℕ) (mid new : PlainPair D)
    → (IsTrue (state first).tells → (state first).may_leave (state first).seen) → (IsTrue (state second).tells → (state second).may_leave (state second).seen)
    → MountKeeps state first second snapshot mid → IsRead state mid new
    → (IsTrue (state first).tells → IsTrue (state second).tells → Told state mid)
    → (IsTrue (state first).tells → IsTrue (state second).tells → folded asked (or_first snapshot (read_pair (state first).seen (state second).seen)) ≡ held)
    → (IsTrue (state first).tells → IsTrue (state second).tells → folded asked mid.active.payloads ≡ held)
    → MountHolds state first second asked held new
mount_holds {D = D} state first second asked held snapshot mid new first_now second_now keeps read told mounted payloads first_tells second_tells =
    keeps_and (WithinBoth state) (AreMountedFrom (state first) (state second) asked held) [] (first, second) mid.past (both_disks mid) new.past (both_disks new)
    (keeps_weaker (WithinBoth state) (AreMounting (state first) (state second) snapshot) (AreMountedFrom (state first) (state second) asked held) [] (first, second) mid.past (both_disks mid)
    (λ images are. weaken images (mounting_reads (state first) (state second) snapshot (first_now first_tells) (second_now second_tells) images are)) (keeps first_tells second_tells))
    (keeps_weaker (WithinBoth state) (λ images. read_pair images.0 images.1 ≡ mid.active.payloads) (AreMountedFrom (state first) (state second) asked held) mid.past (both_disks mid) new.past (both_disks new)
    (λ images e. inr (ap (folded asked) e ∙ payloads first_tells second_tells)) (read.moments (told first_tells second_tells)))
  where
    weaken : (images : List ℕ × List ℕ)
        → ReadsAsBefore (state first).may_leave (state second).may_leave images ⊎ (read_pair images.0 images.1 ≡ or_first snapshot (read_pair (state first).seen (state second).seen))
        → AreMountedFrom (state first) (state second) asked held images
    weaken images (inl before) = inl before
    weaken images (inr e) = inr (ap (folded asked) e ∙ mounted first_tells second_tells)

-- ---- what a mount leaves, once its records were read

on_first : {D X : Type 0} (f : D → X) (side : Side) (a b c : D) → f a ≡ f b → f (first_of side a c) ≡ f (first_of side b c)
on_first f First a b c e = e
on_first f Second a b c e = refl

on_second : {D X : Type 0} (f : D → X) (side : Side) (a b c : D) → f a ≡ f b → f (second_of side a c) ≡ f (second_of side b c)
on_second f First a b c e = refl
on_second f Second a b c e = e

pub first_moved : {D X : Type 0} (state : D → DiskState) (f : D → X) (old new : PlainPair D) → IsRead state old new → f new.active.disk ≡ f old.active.disk
    → f (first_disk new) ≡ f (first_disk old)
first_moved {D = D} state f old new read e =
    ap (λ (p : PlainPair D). f (first_disk p)) read.stays ∙ on_first f old.side new.active.disk old.active.disk old.standby.disk e

pub second_moved : {D X : Type 0} (state : D → DiskState) (f : D → X) (old new : PlainPair D) → IsRead state old new → f new.active.disk ≡ f old.active.disk
    → f (second_disk new) ≡ f (second_disk old)
second_moved {D = D} state f old new read e =
    ap (λ (p : PlainPair D). f (second_disk p)) read.stays ∙ on_second f old.side new.active.disk old.active.disk old.standby.disk e

pub still_mounts : {D : Type 0} (state : D → DiskState) (first second : D) (asked : Asked) (mid new : PlainPair D)
    → Mounts state first second asked mid → IsRead state mid new → (state new.active.disk).faults ≡ (state mid.active.disk).faults
    → Mounts state first second asked new
still_mounts {D = D} state first second asked mid new was read faults = record {
  list = λ a b. ap (λ (p : PlainPair D). p.active.payloads) read.stays ∙ was.list a b;
  side = λ a b. ap (λ (p : PlainPair D). p.side) read.stays ∙ was.side a b;
  rests = ap (λ (p : PlainPair D). p.doubt) read.stays ∙ was.rests;
  first_bytes = λ a b. first_moved state (λ d. (state d).seen) mid new read read.writes_none.seen ∙ was.first_bytes a b;
  second_bytes = λ b. second_moved state (λ d. (state d).seen) mid new read read.writes_none.seen ∙ was.second_bytes b;
  limit = ap (λ (p : PlainPair D). p.active.limit) read.stays ∙ was.limit;
  standby_limit = ap (λ (p : PlainPair D). p.standby.limit) read.stays ∙ was.standby_limit;
  first_tells = first_moved state (λ d. (state d).tells) mid new read read.tells ∙ was.first_tells;
  second_tells = second_moved state (λ d. (state d).tells) mid new read read.tells ∙ was.second_tells;
  first_arms = first_moved state (λ d. (state d).arms) mid new read read.arms ∙ was.first_arms;
  second_arms = second_moved state (λ d. (state d).arms) mid new read read.arms ∙ was.second_arms;
  first_faults = first_moved state (λ d. (state d).faults) mid new read faults ∙ was.first_faults;
  second_faults = second_moved state (λ d. (state d).faults) mid new read faults ∙ was.second_faults;
}

-- ---- refusals

-- of the bytes, a mount that was done is one that may have been done in part
record_torn : (payload old : List ℕ) → Torn 0 (6 + length payload) old (with_record 0 payload old)
record_torn payload old =
    let long : length (1 ∷ body_bytes payload) ≡ 6 + length payload = omega (arith, length-append payload (0 ∷ [])) in
    let same : 0 + length (1 ∷ body_bytes payload) ≡ 0 + (6 + length payload) = omega arith in
    subst (λ n. Torn 0 (6 + length payload) old (take 0 old ++ (1 ∷ body_bytes payload) ++ drop n old)) same
    (torn_written 0 (6 + length payload) (1 ∷ body_bytes payload) old (omega arith) (omega arith))

pub mounted_torn : (snapshot : List ℕ) (first second : List (List ℕ)) (old new : List ℕ) → new ≡ mounted_first snapshot first second old → IsMountTorn snapshot first second old new
mounted_torn snapshot [] [] old new e = subst (Torn 0 (6 + length (first_record snapshot)) old) (sym e) (record_torn (first_record snapshot) old)
mounted_torn snapshot [] (y ∷ ys) old new e = inr (0, e)
mounted_torn snapshot (x ∷ xs) [] old new e = inr (0, e)
mounted_torn snapshot (x ∷ xs) (y ∷ ys) old new e = inr (0, e)

why_refused : (told : Type 0) (asked : Asked) (side other : Side) (held : Folded) (why : Unread) → (told → side ≡ other) → (told → IsWhy why held)
    → IsRefusal told asked other held (refusal_of asked (number_of side) why)
why_refused told asked side other held (unread.Damaged at) same is = λ t. (ap (λ s. disk_number asked (number_of s)) (same t), is t)
why_refused told asked side other held (unread.Another what kept wanted) same is = is
why_refused told asked side other held unread.Fault same is = tt
why_refused told asked side other held unread.Memory same is = tt

rose_on : {D : Type 0} (state : D → DiskState) (side : Side) (a b c : D) → (state a).faults ≤ (state b).faults → Rose (state a).faults (state b).faults
    → RoseOn side (state (first_of side a c)).faults (state (second_of side a c)).faults (state (first_of side b c)).faults (state (second_of side b c)).faults
rose_on state First a b c later rose = (later, rose, refl)
rose_on state Second a b c later rose = (refl, later, rose)

cause_refused : {D : Type 0} (state : D → DiskState) (asked : Asked) (mid new : PlainPair D) (why : Unread) → IsRead state mid new
    → IsCause why (state mid.active.disk).faults (state new.active.disk).faults
    → IsMountBlamed asked (refusal_of asked (number_of new.side) why) (state (first_disk mid)).faults (state (second_disk mid)).faults
    (state (first_disk new)).faults (state (second_disk new)).faults
cause_refused state asked mid new (unread.Damaged at) read cause =
    (first_moved state (λ d. (state d).faults) mid new read cause, second_moved state (λ d. (state d).faults) mid new read cause)
cause_refused state asked mid new (unread.Another what kept wanted) read cause =
    (first_moved state (λ d. (state d).faults) mid new read cause, second_moved state (λ d. (state d).faults) mid new read cause)
cause_refused {D = D} state asked mid new unread.Fault read cause =
    subst (λ (p : PlainPair D). (side : Side) × (disk_number asked (number_of p.side) ≡ disk_number asked (number_of side))
    × RoseOn side (state (first_disk mid)).faults (state (second_disk mid)).faults (state (first_disk p)).faults (state (second_disk p)).faults) (sym read.stays)
    (mid.side, refl, rose_on state mid.side mid.active.disk new.active.disk mid.standby.disk cause.0 cause.1)
cause_refused state asked mid new unread.Memory read cause =
    (first_moved state (λ d. (state d).faults) mid new read cause, second_moved state (λ d. (state d).faults) mid new read cause)

pub refused_then : {D : Type 0} (state : D → DiskState) (first second : D) (asked : Asked) (mid new : PlainPair D) (why : Unread)
    → Mounts state first second asked mid → IsRead state mid new → IsCause why (state mid.active.disk).faults (state new.active.disk).faults
    → (IsTrue (state first).tells × IsTrue (state second).tells → IsWhy why (folded asked (read_pair (state first).seen (state second).seen)))
    → Refuses state first second asked (first_disk new, second_disk new, refusal_of asked (number_of new.side) why)
refused_then {D = D} state first second asked mid new why was read cause is = record {
  why = why_refused (IsTrue (state first).tells × IsTrue (state second).tells) asked new.side (side_of (records (state first).seen) (records (state second).seen))
      (folded asked (read_pair (state first).seen (state second).seen)) why (λ told. ap (λ (p : PlainPair D). p.side) read.stays ∙ was.side told.0 told.1) is;
  cause = subst (λ n. IsMountBlamed asked (refusal_of asked (number_of new.side) why) n (state second).faults (state (first_disk new)).faults (state (second_disk new)).faults) was.first_faults
      (subst (λ n. IsMountBlamed asked (refusal_of asked (number_of new.side) why) (state (first_disk mid)).faults n (state (first_disk new)).faults (state (second_disk new)).faults) was.second_faults
      (cause_refused state asked mid new why read cause));
  first_bytes = λ a b. mounted_torn (first_snapshot asked) (records (state first).seen) (records (state second).seen) (state first).seen (state (first_disk new)).seen
      (first_moved state (λ d. (state d).seen) mid new read read.writes_none.seen ∙ was.first_bytes a b);
  second_bytes = λ b. inr (0, second_moved state (λ d. (state d).seen) mid new read read.writes_none.seen ∙ was.second_bytes b);
  first_tells = first_moved state (λ d. (state d).tells) mid new read read.tells ∙ was.first_tells;
  second_tells = second_moved state (λ d. (state d).tells) mid new read read.tells ∙ was.second_tells;
  first_arms = first_moved state (λ d. (state d).arms) mid new read read.arms ∙ was.first_arms;
  second_arms = second_moved state (λ d. (state d).arms) mid new read read.arms ∙ was.second_arms;
}

-- both logs have the limit
pub both_limited : (side : Side) (a b limit : ℕ) → first_of side a b ≡ limit → second_of side a b ≡ limit → (a ≡ limit) × (b ≡ limit)
both_limited First a b limit e f = (e, f)
both_limited Second a b limit e f = (f, e)
