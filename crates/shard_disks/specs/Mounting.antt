-- What the disks of a shard are mounted from, and what a mount answers.
use Rattle.std.specs.Prelude.{ℕ, ◌≡◌, ◌⊎◌, ◌<◌, ◌≤◌, ◌+◌, ◌-◌, ◌^◌, IsTrue, List, [], ◌∷◌, ◌++◌, length, map, take, drop, None, Vec, refl}
use Rattle.std.proofs.Common.{arith}
use Rattle.std.specs.declared.alloc.Global.{Global}
use Rattle.outside.specs.Along.{Keeps, left_between}
use Rattle.outside.specs.DiskModel.{DiskState, LeavesOnly}
use Rattle.gated_log.specs.Blame.{IsBlamedFor}
use Rattle.gated_log.specs.Calls as log
use Rattle.gated_log.specs.Closing.{IsGateTorn, with_gate}
use Rattle.gated_log.specs.PlainLog.{AllHave, AtRest, PlainLog, end_of}
use Rattle.gated_log.specs.Records.{records}
use Rattle.gated_log.specs.declared.refused.LogRefused.{LogRefused}
use Rattle.gated_log.specs.declared.refused.LogRefused.TheVariants.{Full}
use Rattle.pair_log.specs.declared.side.Side.{Side}
use Rattle.pair_log.specs.declared.side.Side.TheVariants.{First}
use Rattle.pair_log.specs.declared.doubt.Doubt.TheVariants.{Nothing}
use Rattle.pair_log.specs.Epochs.{read_pair}
use Rattle.pair_log.specs.Mounted.{IsBeginning, IsBlamedOn, IsMountTorn, IsMounting, MountKeeps, mounted_first, or_first, side_of}
use Rattle.pair_log.specs.PlainPair.{HasEither, PlainPair, first_disk, first_limit, second_disk, second_limit}
use Rattle.pair_log.specs.Sides.{number_of}
use Rattle.shard_disks.specs.declared.limits.Limits.{Limits}
use Rattle.shard_disks.specs.Blame.{IsBlamedAt}
use Rattle.shard_disks.specs.Images.{AllRead, KeepsDisks, MayLeaveAll, WithinAll, faults_of, seen_of, tell_all}
use Rattle.shard_disks.specs.Lists.{EachHas, Pairwise}
use Rattle.shard_disks.specs.Outline.{Reads, reads_in, reads_of, with_first}
use Rattle.shard_disks.specs.PlainDisks.{PlainDisks, all_disks, outline}

-- which of the manifest's disks counts, by the bytes of all
abbrev pub side_in : List (List ℕ) → Side
side_in [] = First
side_in (first ∷ []) = First
side_in (first ∷ (second ∷ bytes)) = side_of (records first) (records second)

-- with a closed gate behind the records
abbrev pub closed : List ℕ → List ℕ
closed bytes = with_gate (end_of (records bytes)) 0 bytes

-- The bytes after a mount: each disk has a closed gate behind its records, and the first one the manifest's first snapshot where neither of its two
-- has a record.
abbrev pub mounted_bytes : List ℕ → List (List ℕ) → List (List ℕ)
mounted_bytes snapshot [] = []
mounted_bytes snapshot (first ∷ []) = first ∷ []
mounted_bytes snapshot (first ∷ (second ∷ bytes)) = mounted_first snapshot (records first) (records second) first ∷ (closed second ∷ map closed bytes)

-- the same where the mount was refused: the gates may hold anything, and what is written of a first snapshot
abbrev pub AreMountTorn : List ℕ → List (List ℕ) → List (List ℕ) → Type 0
AreMountTorn snapshot (first ∷ (second ∷ bytes)) (first_now ∷ (second_now ∷ bytes_now)) =
    IsMountTorn snapshot (records first) (records second) first first_now
    × IsGateTorn (end_of (records second)) second second_now
    × Pairwise (λ old new. IsGateTorn (end_of (records old)) old new) bytes bytes_now
AreMountTorn snapshot old new = ⊥

-- Images read as those that a crash at the start might have left, or as these with the first snapshot.
pub record ReadsAsBefore {D : Type 0} (state : D → DiskState) (disks : List D) (snapshot : List ℕ) (images : List (List ℕ)) : Type 0 where
  pub before : List (List ℕ)
  pub left : MayLeaveAll state disks before
  pub reads : (reads_in images ≡ reads_in before) ⊎ (reads_in images ≡ with_first snapshot (reads_in before))

-- Images that a crash in one step might have left, each after the first call of its disk in that step.
abbrev pub AllSinceFirst : {D : Type 0} → (D → DiskState) → List D → List D → List (List ℕ) → Type 0
AllSinceFirst state [] [] [] = Unit {0}
AllSinceFirst state (d ∷ before) (e ∷ after) (image ∷ images) = (state e).left_since ((state d).calls + 1) image × AllSinceFirst state before after images
AllSinceFirst state before after images = ⊥

-- The same of the step in which the logs of the slots are mounted: the manifest's two disks stay, and the first call of each other disk is its sync.
abbrev pub OnceSynced : {D : Type 0} → (D → DiskState) → List D → List D → List (List ℕ) → Type 0
OnceSynced state (c ∷ (d ∷ before)) (e ∷ (f ∷ after)) (first ∷ (second ∷ images)) =
    left_between state c e first × left_between state d f second × AllSinceFirst state before after images
OnceSynced state before after images = ⊥

-- Each of these disks but the first two has made a call behind its first one, the sync: so that sync was done.
abbrev pub AreBehindSync : {D : Type 0} → (D → DiskState) → List D → List D → Type 0
AreBehindSync state old new = Pairwise (λ d e. (state d).calls + 2 ≤ (state e).calls) (drop 2 old) (drop 2 new)

-- law: no call has been made on disks that are as they were
pub none_behind : {D : Type 0} (state : D → DiskState) (disks : List D) → 2 < length disks → AreBehindSync state disks disks → ⊥
none_behind state [] long behind = omega (arith, long)
none_behind state (a ∷ []) long behind = omega (arith, long)
none_behind state (a ∷ (b ∷ [])) long behind = omega (arith, long)
none_behind state (a ∷ (b ∷ (c ∷ disks))) long behind = omega (arith, behind.0)

-- The last step of a mount of these disks, in which the logs of the slots are mounted behind the manifest's: once the sync of each of their disks has
-- been done, images read so.
pub record LastStep {D : Type 0} (state : D → DiskState) (disks : List D) (reads : Reads) (past : List (List D)) (now : List D) : Type 0 where
  pub earlier : List (List D)
  pub begun : List D
  pub recorded : past ≡ earlier ++ begun ∷ []
  pub untouched : drop 2 begun ≡ drop 2 disks
  pub synced : (images : List (List ℕ)) → OnceSynced state begun now images → reads_in images ≡ reads

-- What a mount leaves of these disks: what their records hold, or the manifest's first snapshot, and of the bytes nothing else is changed but the gates
-- behind the records. At each moment of it images read as at the start, or with the first snapshot; once each disk was synced, as after it.
pub record MountsDisks {D : Type 0} (state : D → DiskState) (disks : List D) (limits : Limits) (snapshot : List ℕ) (new : PlainDisks D) : Type 0 where
  pub list : IsTrue (tell_all state disks) → reads_of (outline new) ≡ with_first snapshot (reads_in (seen_of state disks))
  pub ends : IsTrue (tell_all state disks) → EachHas (λ slot. slot.end ≡ end_of slot.payloads) (outline new).slots
  pub side : IsTrue (tell_all state disks) → (outline new).side ≡ side_in (seen_of state disks)
  pub rests : (outline new).doubted ≡ None
  pub eight : length (outline new).slots ≡ 8
  pub slot_limits : EachHas (λ slot. slot.limit ≡ limits.slot) (outline new).slots
  pub first_limit_kept : first_limit new.manifest ≡ limits.manifest
  pub second_limit_kept : second_limit new.manifest ≡ limits.manifest
  pub bytes : IsTrue (tell_all state disks) → seen_of state (all_disks new) ≡ mounted_bytes snapshot (seen_of state disks)
  pub images : IsTrue (tell_all state disks) → AllRead state (all_disks new) (λ reads. reads ≡ reads_of (outline new))
  pub any_moment : IsTrue (tell_all state disks) → Keeps (WithinAll state) (ReadsAsBefore state disks snapshot) [] disks new.past (all_disks new)
  pub last_step : IsTrue (tell_all state disks) → LastStep state disks (reads_of (outline new)) new.past (all_disks new)
  pub kept : KeepsDisks state disks (all_disks new)
  pub faults : faults_of state (all_disks new) ≡ faults_of state disks

-- What a refused mount hands back: all disks in their order, the place of the one that refused, and why. Images that the disks might have left at any
-- moments of it, the same one or each another, read as some at its start, or as these with the first snapshot; so do those that they may leave then.
-- Once each disk was synced, they read as the disks did, or as these with that snapshot.
pub record RefusesDisks {D : Type 0} (state : D → DiskState) (disks : List D) (snapshot : List ℕ) (refused : Vec D Global × ℕ × LogRefused) : Type 0 where
  pub ten : length refused.0.items ≡ 10
  pub place : refused.1 < 10
  pub never_full : refused.2 ≡ Full → ⊥
  pub cause : IsBlamedAt refused.1 refused.2 (faults_of state disks) (faults_of state refused.0.items)
  pub kept : KeepsDisks state disks refused.0.items
  pub bytes : IsTrue (tell_all state disks) → AreMountTorn snapshot (seen_of state disks) (seen_of state refused.0.items)
  pub any_moment :
      IsTrue (tell_all state disks) → (images : List (List ℕ)) → WithinAll state disks refused.0.items images → ReadsAsBefore state disks snapshot images
  pub images : IsTrue (tell_all state disks) → (images : List (List ℕ)) → MayLeaveAll state refused.0.items images → ReadsAsBefore state disks snapshot images
  pub synced :
      IsTrue (tell_all state disks) → AreBehindSync state disks refused.0.items →
      (images : List (List ℕ)) → OnceSynced state (take 2 refused.0.items ++ drop 2 disks) refused.0.items images →
      reads_in images ≡ with_first snapshot (reads_in (seen_of state disks))

-- ---- the log of one slot

-- a log was mounted on a disk
pub record IsLogMounted {D : Type 0} (state : D → DiskState) (limit : ℕ) (disk : D) (new : PlainLog D) : Type 0 where
  pub list : IsTrue (state disk).tells → new.payloads ≡ records (state disk).seen
  pub bytes : IsTrue (state disk).tells → (state new.disk).seen ≡ with_gate new.end 0 (state disk).seen
  pub images : IsTrue (state disk).tells → AllHave AtRest new.payloads (state new.disk).may_leave
  pub rests : new.standing ≡ AtRest
  pub end : IsTrue (state disk).tells → new.end ≡ end_of new.payloads
  pub limit_kept : new.limit ≡ limit
  pub mounting : log.IsMounting (state disk) (state new.disk)
  pub repaired : IsTrue (state disk).tells → log.IsRepaired (state disk) (state new.disk)
  pub faults : (state new.disk).faults ≡ (state disk).faults

-- or a disk was refused
pub record IsLogRefused {D : Type 0} (state : D → DiskState) (disk : D) (refused : D × LogRefused) : Type 0 where
  pub mounting : log.IsMounting (state disk) (state refused.0)
  pub never_full : refused.1 ≡ Full → ⊥
  pub cause : IsBlamedFor (state disk).faults (state refused.0).faults refused.1

-- One disk of several is mounted: it is the first of them, and its log is the last.
pub record MountsNext {D : Type 0} (state : D → DiskState) (limit : ℕ) (disks rest : List D) (logs more : List (PlainLog D)) : Type 0 where
  pub disk : D
  pub new : PlainLog D
  pub was_first : disks ≡ disk ∷ rest
  pub is_last : more ≡ logs ++ new ∷ []
  pub mounted : IsLogMounted state limit disk new

-- these were mounted, and the next one was refused
pub record IsStopped {D : Type 0} (state : D → DiskState) (limit : ℕ) (disks rest : List D) (logs : List (PlainLog D)) (refused : D × LogRefused) : Type 0 where
  pub before : List D
  pub disk : D
  pub were : disks ≡ before ++ disk ∷ rest
  pub mounted : Pairwise (IsLogMounted state limit) before logs
  pub why : IsLogRefused state disk refused

-- ---- the pair of logs of the manifest

-- the pair was mounted on the first two of these disks, whose sizes are counted
pub record MountsPair {D : Type 0} (state : D → DiskState) (disks rest : List D) (limit : ℕ) (snapshot : List ℕ) (new : PlainPair D) : Type 0 where
  pub first : D
  pub second : D
  pub were : disks ≡ first ∷ (second ∷ rest)
  pub list :
      IsTrue (state first).tells → IsTrue (state second).tells →
      new.active.payloads ≡ or_first snapshot (read_pair (state first).seen (state second).seen)
  pub side : IsTrue (state first).tells → IsTrue (state second).tells → new.side ≡ side_of (records (state first).seen) (records (state second).seen)
  pub rests : new.doubt ≡ Nothing
  pub any_moment : MountKeeps state first second snapshot new
  pub past : new.past ≡ (first, second) ∷ []
  pub images : HasEither state new
  pub first_bytes :
      IsTrue (state first).tells → IsTrue (state second).tells →
      (state (first_disk new)).seen ≡ mounted_first snapshot (records (state first).seen) (records (state second).seen) (state first).seen
  pub second_bytes : IsTrue (state second).tells → (state (second_disk new)).seen ≡ closed (state second).seen
  pub first_limit_kept : first_limit new ≡ limit
  pub second_limit_kept : second_limit new ≡ limit
  pub first_tells : (state (first_disk new)).tells ≡ (state first).tells
  pub second_tells : (state (second_disk new)).tells ≡ (state second).tells
  pub first_arms : (state (first_disk new)).arms ≡ (state first).arms
  pub second_arms : (state (second_disk new)).arms ≡ (state second).arms
  pub first_faults : (state (first_disk new)).faults ≡ (state first).faults
  pub second_faults : (state (second_disk new)).faults ≡ (state second).faults
  pub first_size : (state first).size ≤ 2 ^ 64 - 1
  pub second_size : (state second).size ≤ 2 ^ 64 - 1

-- or one of them was refused, and both are there again
pub record RefusesPair {D : Type 0} (state : D → DiskState) (disks now : List D) (snapshot : List ℕ) (place : ℕ) (why : LogRefused) : Type 0 where
  pub first : D
  pub second : D
  pub first_now : D
  pub second_now : D
  pub rest : List D
  pub were : disks ≡ first ∷ (second ∷ rest)
  pub are : now ≡ first_now ∷ (second_now ∷ rest)
  pub side : Side
  pub place_is : place ≡ number_of side
  pub blame : IsBlamedOn side why (state first).faults (state second).faults (state first_now).faults (state second_now).faults
  pub never_full : why ≡ Full → ⊥
  pub first_moments :
      IsTrue (state first).tells → IsTrue (state second).tells →
      LeavesOnly (state first) (state first_now) (IsBeginning (state first).may_leave (records (state first).seen) (records (state second).seen) snapshot)
  pub second_moments :
      IsTrue (state second).tells → LeavesOnly (state second) (state second_now) (IsMounting (state second).may_leave (records (state second).seen))
  pub first_torn :
      IsTrue (state first).tells → IsTrue (state second).tells →
      IsMountTorn snapshot (records (state first).seen) (records (state second).seen) (state first).seen (state first_now).seen
  pub second_torn : IsTrue (state second).tells → IsGateTorn (end_of (records (state second).seen)) (state second).seen (state second_now).seen
  pub first_tells : (state first_now).tells ≡ (state first).tells
  pub second_tells : (state second_now).tells ≡ (state second).tells
  pub first_arms : (state first_now).arms ≡ (state first).arms
  pub second_arms : (state second_now).arms ≡ (state second).arms

-- examples: a mount of two new disks of the manifest and of a slot whose gate was torn
first_mount : mounted_bytes (110 ∷ []) ((0 ∷ []) ∷ (0 ∷ []) ∷ (1 ∷ 0 ∷ 0 ∷ 0 ∷ 1 ∷ 88 ∷ 7 ∷ 0 ∷ []) ∷ [])
    ≡ (1 ∷ 0 ∷ 0 ∷ 0 ∷ 9 ∷ 0 ∷ 0 ∷ 0 ∷ 0 ∷ 0 ∷ 0 ∷ 0 ∷ 1 ∷ 110 ∷ 0 ∷ []) ∷ (0 ∷ []) ∷ (1 ∷ 0 ∷ 0 ∷ 0 ∷ 1 ∷ 88 ∷ 0 ∷ 0 ∷ []) ∷ []
first_mount = refl

-- of two disks without a record the first one counts
new_side : side_in ((0 ∷ []) ∷ (0 ∷ []) ∷ []) ≡ First
new_side = refl
