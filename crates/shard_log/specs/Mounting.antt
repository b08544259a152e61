-- What a shard is mounted from, and what a mount answers.
use Rattle.std.specs.Prelude.{ℕ, ◌≡◌, ◌⊎◌, ◌+◌, ◌*◌, IsTrue, List, [], ◌∷◌, ◌++◌, length, take, drop, Vec}
use Rattle.std.specs.declared.alloc.Global.{Global}
use Rattle.outside.specs.Along.{Keeps}
use Rattle.outside.specs.DiskModel.{DiskState}
use Rattle.gated_log.specs.declared.refused.LogRefused.TheVariants.{Fault as Failed}
use Rattle.pair_log.specs.declared.side.Side.{Side}
use Rattle.pair_log.specs.Sides.{number_of}
use Rattle.topic_name.specs.declared.config.Config.{Config}
use Rattle.topic_name.specs.declared.mounting.MountRefused.{MountRefused}
use Rattle.topic_name.specs.declared.mounting.MountRefused.TheVariants.{Fault, Damaged, Differs, Behind, Memory}
use Rattle.shard_model.specs.ShardList.{ShardList}
use Rattle.shard_fold.specs.declared.asked.Asked.{Asked}
use Rattle.shard_fold.specs.declared.unread.Where.{Where}
use Rattle.shard_fold.specs.Fold.{Folded, Holds, IsDamaged, HasAnother, first_manifest}
use Rattle.shard_disks.specs.Blame.{IsBlamedAt}
use Rattle.shard_disks.specs.Images.{KeepsDisks, MayLeaveAll, WithinAll, faults_of, seen_of, tell_all}
use Rattle.shard_disks.specs.Mounting.{AreBehindSync, AreMountTorn, OnceSynced, mounted_bytes, side_in}
use Rattle.shard_disks.specs.Outline.{reads_in, with_first}
use Rattle.shard_disks.specs.PlainDisks.{all_disks}
use Rattle.shard_reading.specs.declared.unread.Unread.{Unread}
use Rattle.shard_reading.specs.declared.unread.Unread.TheVariants as unread
use Rattle.shard_reading.specs.Held.{IsOpeningTorn, begins, disk_place, held_in, with_opening}
use Rattle.shard_log.specs.Appending.{IsShown}
use Rattle.shard_log.specs.PlainShardLog.{ImagesHold, PlainShardLog, shown}

-- what a shard of a broker with this configuration is asked to be
abbrev pub asked_by : Config → ℕ → Asked
asked_by config shard = record { config = config; shard = shard }

-- the number of a disk among all disks, by its place among the ten of its shard
abbrev pub disk_number : Asked → ℕ → ℕ
disk_number asked place = 10 * asked.shard + place

-- what a mount answers where the shard was not read so, whose manifest's disk on this side counts
abbrev pub refusal_of : Asked → ℕ → Unread → MountRefused
refusal_of asked side (unread.Damaged log place) = Damaged (disk_number asked (disk_place side log)) place
refusal_of asked side (unread.Another what kept wanted) = Differs what kept wanted
refusal_of asked side (unread.Fault place) = Fault (disk_number asked place)
refusal_of asked side unread.Memory = Memory

-- what the records of disks hold, by their bytes
abbrev pub held_at : Asked → List (List ℕ) → Folded ShardList
held_at asked bytes = held_in asked (reads_in bytes)

-- Why a mount is refused, of the disk that counts for the manifest and of what the records hold; a refusal of what they hold is one where the disks
-- tell.
abbrev pub IsRefusal : Type 0 → Asked → Side → Folded ShardList → MountRefused → Type 0
IsRefusal told asked side held (Fault disk) = Unit {0}
IsRefusal told asked side held (Damaged disk at) = told → (log : Where) × (disk ≡ disk_number asked (disk_place (number_of side) log)) × (held ≡ IsDamaged log at)
IsRefusal told asked side held (Differs what kept wanted) = told → held ≡ HasAnother what kept wanted
IsRefusal told asked side held (Behind client shard position next) = ⊥
IsRefusal told asked side held Memory = Unit {0}

-- a mount answers the fault of a disk where that disk's count of faults rose, and beside every other answer all counts stay
abbrev pub IsMountBlamed : Asked → MountRefused → List ℕ → List ℕ → Type 0
IsMountBlamed asked (Fault disk) before now = (place : ℕ) × (disk ≡ disk_number asked place) × IsBlamedAt place Failed before now
IsMountBlamed asked (Damaged disk at) before now = now ≡ before
IsMountBlamed asked (Differs what kept wanted) before now = now ≡ before
IsMountBlamed asked (Behind client shard position next) before now = now ≡ before
IsMountBlamed asked Memory before now = now ≡ before

-- ten images hold what a crash at the start of a mount might have left
pub record HoldAsBefore {D : Type 0} (state : D → DiskState) (disks : List D) (asked : Asked) (images : List (List ℕ)) : Type 0 where
  pub before : List (List ℕ)
  pub left : MayLeaveAll state disks before
  pub held : held_at asked images ≡ held_at asked before

-- ten images hold this
abbrev pub HoldThis : Asked → Folded ShardList → List (List ℕ) → Type 0
HoldThis asked held images = held_at asked images ≡ held

-- The moments of a mount of these disks, of which all ten were mounted, up to these states of them. In one of its steps the logs of the slots are
-- mounted: from the disks `begun`, among which those of the slots are as they were, to the disks `mounted`. Up to the end of that step ten images hold
-- what some held at the start. In it, once the sync of each disk has been done, ten images hold what the records held at the start (`held`), and so does
-- each ten from its end on.
pub record MountMoments {D : Type 0} (state : D → DiskState) (disks : List D) (asked : Asked) (held : Folded ShardList) (past : List (List D)) (now : List D) : Type 0 where
  pub earlier : List (List D)
  pub begun : List D
  pub mounted : List D
  pub untouched : drop 2 begun ≡ drop 2 disks
  pub bytes : seen_of state mounted ≡ mounted_bytes (first_manifest asked) (seen_of state disks)
  pub until : Keeps (WithinAll state) (HoldAsBefore state disks asked) [] disks (earlier ++ begun ∷ []) mounted
  pub synced : (images : List (List ℕ)) → OnceSynced state begun mounted images → HoldThis asked held images
  pub there : (images : List (List ℕ)) → MayLeaveAll state mounted images → HoldThis asked held images
  pub onwards : Keeps (WithinAll state) (HoldThis asked held) (earlier ++ begun ∷ []) mounted past now

-- A mount was refused before all ten disks were mounted. Images that they might have left at any moments of it, the same one or each another, hold what
-- some held at the start, and so do those that they may leave then. Once each disk was synced, they hold what the disks held.
pub record HaltsEarly {D : Type 0} (state : D → DiskState) (disks : List D) (asked : Asked) (now : List D) : Type 0 where
  pub any_moment : (images : List (List ℕ)) → WithinAll state disks now images → HoldAsBefore state disks asked images
  pub left : (images : List (List ℕ)) → MayLeaveAll state now images → HoldAsBefore state disks asked images
  pub synced :
      AreBehindSync state disks now →
      (images : List (List ℕ)) → OnceSynced state (take 2 now ++ drop 2 disks) now images → HoldThis asked (held_at asked (seen_of state disks)) images

-- A mount was refused behind that. Its disks came back without their history, so it is told that there is one.
pub record HaltsMounted {D : Type 0} (state : D → DiskState) (disks : List D) (asked : Asked) (now : List D) : Type 0 where
  pub past : List (List D)
  pub moments : MountMoments state disks asked (held_at asked (seen_of state disks)) past now
  pub left : (images : List (List ℕ)) → MayLeaveAll state now images → HoldThis asked (held_at asked (seen_of state disks)) images

-- The bytes after a mount: the disks' gates are closed, and of a new shard the two first records are there.
abbrev pub bytes_mounted : Asked → List (List ℕ) → List (List ℕ)
bytes_mounted asked bytes = with_opening (begins asked (with_first (first_manifest asked) (reads_in bytes))) (mounted_bytes (first_manifest asked) bytes)

-- the same where the mount was refused: while the disks were mounted, or with the opening in part
abbrev pub AreLeftTorn : Asked → List (List ℕ) → List (List ℕ) → Type 0
AreLeftTorn asked old new =
    AreMountTorn (first_manifest asked) old new
    ⊎ IsOpeningTorn (begins asked (with_first (first_manifest asked) (reads_in old))) (mounted_bytes (first_manifest asked) old) new

-- A mount gives the list that the disks' records hold, and each ten images hold it, once each disk was synced. Before that ten images hold what some
-- held at its start. It writes gates and first records, and nothing else.
pub record Mounts {D : Type 0} (state : D → DiskState) (disks : List D) (asked : Asked) (new : PlainShardLog D) : Type 0 where
  pub holds : IsTrue (tell_all state disks) → held_at asked (seen_of state disks) ≡ Holds (shown new)
  pub shows : IsShown new
  pub asked_kept : new.asked ≡ asked
  pub images : ImagesHold state new (shown new) (shown new)
  pub moments : IsTrue (tell_all state disks) → MountMoments state disks asked (Holds (shown new)) new.disks.past (all_disks new.disks)
  pub bytes : IsTrue (tell_all state disks) → seen_of state (all_disks new.disks) ≡ bytes_mounted asked (seen_of state disks)
  pub kept : KeepsDisks state disks (all_disks new.disks)
  pub faults : faults_of state (all_disks new.disks) ≡ faults_of state disks

-- A refused mount hands all disks back in their order, and tells why: what their records hold, or a fault of one of them. Its moments are told too, and
-- what a crash may leave then.
pub record Refuses {D : Type 0} (state : D → DiskState) (disks : List D) (asked : Asked) (refused : Vec D Global × MountRefused) : Type 0 where
  pub ten : length refused.0.items ≡ 10
  pub why : IsRefusal (IsTrue (tell_all state disks)) asked (side_in (seen_of state disks)) (held_at asked (seen_of state disks)) refused.1
  pub cause : IsMountBlamed asked refused.1 (faults_of state disks) (faults_of state refused.0.items)
  pub bytes : IsTrue (tell_all state disks) → AreLeftTorn asked (seen_of state disks) (seen_of state refused.0.items)
  pub moments : IsTrue (tell_all state disks) → HaltsEarly state disks asked refused.0.items ⊎ HaltsMounted state disks asked refused.0.items
  pub kept : KeepsDisks state disks refused.0.items
