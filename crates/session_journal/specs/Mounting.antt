-- What a journal is mounted from, and what a mount answers.
use Rattle.std.specs.Prelude.{ℕ, ◌≡◌, ◌⊎◌, ◌+◌, ◌*◌, ◌≤◌, IsTrue, List, []}
use Rattle.outside.specs.Along.{Keeps, WithinBoth}
use Rattle.outside.specs.Cause.{Rose}
use Rattle.outside.specs.DiskModel.{DiskState}
use Rattle.topic_name.specs.declared.config.Config.{Config}
use Rattle.topic_name.specs.declared.mounting.MountRefused.{MountRefused}
use Rattle.topic_name.specs.declared.mounting.MountRefused.TheVariants.{Fault, Damaged, Differs, Behind, Memory}
use Rattle.session_state.specs.KeptSession.{no_kept_sessions}
use Rattle.session_codec.specs.Spelling.{snapshot_to_write, spelled_snapshot}
use Rattle.pair_log.specs.declared.side.Side.{Side}
use Rattle.pair_log.specs.declared.side.Side.TheVariants.{First, Second}
use Rattle.gated_log.specs.Closing.{IsGateTorn, WithGate}
use Rattle.gated_log.specs.PlainLog.{end_of}
use Rattle.gated_log.specs.Records.{records}
use Rattle.pair_log.specs.declared.doubt.Doubt.TheVariants.{Nothing}
use Rattle.pair_log.specs.Epochs.{read_pair}
use Rattle.pair_log.specs.Mounted.{IsMountTorn, mounted_first, or_first, side_of}
use Rattle.pair_log.specs.PlainPair.{PlainPair, both_disks, first_disk, second_disk}
use Rattle.pair_log.specs.Sides.{number_of}
use Rattle.session_journal.specs.declared.asked.Asked.{Asked}
use Rattle.session_journal.specs.declared.unread.Unread.{Unread}
use Rattle.session_journal.specs.declared.unread.Unread.TheVariants as unread
use Rattle.session_journal.specs.declared.limits.TheConstants.{MOST_BYTES}
use Rattle.session_journal.specs.Fold.{Folded, IsDamaged, HasAnother, folded}

-- what the journal of a worker is asked to be
abbrev pub asked_by : Config → ℕ → Asked
asked_by config worker = record { shards = config.shards; workers = config.workers; worker = worker }

-- the number of the disk on a side among all disks: each shard has ten, and then each worker two
abbrev pub disk_number : Asked → ℕ → ℕ
disk_number asked side = 10 * asked.shards + 2 * asked.worker + side

-- the snapshot of a new journal: no sessions
abbrev pub first_snapshot : Asked → List ℕ
first_snapshot asked = spelled_snapshot (snapshot_to_write asked.shards asked.workers asked.worker no_kept_sessions)

-- what a mount answers where the disk on a side was not read so
abbrev pub refusal_of : Asked → ℕ → Unread → MountRefused
refusal_of asked side (unread.Damaged place) = Damaged (disk_number asked side) place
refusal_of asked side (unread.Another what kept wanted) = Differs what kept wanted
refusal_of asked side unread.Fault = Fault (disk_number asked side)
refusal_of asked side unread.Memory = Memory

-- Why a mount is refused, of the pair's active side and of what the records hold; a refusal of what they hold is one where the disks tell.
abbrev pub IsRefusal : Type 0 → Asked → Side → Folded → MountRefused → Type 0
IsRefusal told asked side held (Fault disk) = Unit {0}
IsRefusal told asked side held (Damaged disk at) = told → (disk ≡ disk_number asked (number_of side)) × (held ≡ IsDamaged at)
IsRefusal told asked side held (Differs what kept wanted) = told → held ≡ HasAnother what kept wanted
IsRefusal told asked side held (Behind client shard position next) = ⊥
IsRefusal told asked side held Memory = Unit {0}

-- of the counts of faults of both disks, before and after: that of the disk on this side rose, and the other one stayed
abbrev pub RoseOn : Side → ℕ → ℕ → ℕ → ℕ → Type 0
RoseOn First first second first_now second_now = (first ≤ first_now) × Rose first first_now × (second_now ≡ second)
RoseOn Second first second first_now second_now = (first_now ≡ first) × (second ≤ second_now) × Rose second second_now

-- a mount answers the fault of a disk where that disk's count of faults rose, and beside every other answer both counts stay
abbrev pub IsMountBlamed : Asked → MountRefused → ℕ → ℕ → ℕ → ℕ → Type 0
IsMountBlamed asked (Fault disk) first second first_now second_now =
    (side : Side) × (disk ≡ disk_number asked (number_of side)) × RoseOn side first second first_now second_now
IsMountBlamed asked (Damaged disk at) first second first_now second_now = (first_now ≡ first) × (second_now ≡ second)
IsMountBlamed asked (Differs what kept wanted) first second first_now second_now = (first_now ≡ first) × (second_now ≡ second)
IsMountBlamed asked (Behind client shard position next) first second first_now second_now = (first_now ≡ first) × (second_now ≡ second)
IsMountBlamed asked Memory first second first_now second_now = (first_now ≡ first) × (second_now ≡ second)

-- two images read as two of the images at the start did
pub record ReadsAsBefore (first second : List ℕ → Type 0) (images : List ℕ × List ℕ) : Type 0 where
  pub before : List ℕ × List ℕ
  pub first_left : first before.0
  pub second_left : second before.1
  pub reads : read_pair images.0 images.1 ≡ read_pair before.0 before.1

-- at each moment of a mount each two images read as two at its start did, or hold what the mount found
abbrev pub AreMountedFrom : DiskState → DiskState → Asked → Folded → List ℕ × List ℕ → Type 0
AreMountedFrom first second asked held images =
    ReadsAsBefore first.may_leave second.may_leave images ⊎ (folded asked (read_pair images.0 images.1) ≡ held)

-- and its states are in the pair's history
abbrev pub MountHolds : {D : Type 0} → (D → DiskState) → D → D → Asked → Folded → PlainPair D → Type 0
MountHolds state first second asked held pair =
    IsTrue (state first).tells → IsTrue (state second).tells
    → Keeps (WithinBoth state) (AreMountedFrom (state first) (state second) asked held) [] (first, second) pair.past (both_disks pair)

-- What a mount of a pair leaves: the records that the disks hold, or the first one, and of the bytes nothing else is changed but the gates
-- behind the records.
pub record Mounts {D : Type 0} (state : D → DiskState) (first second : D) (asked : Asked) (pair : PlainPair D) : Type 0 where
  pub list :
      IsTrue (state first).tells → IsTrue (state second).tells →
      pair.active.payloads ≡ or_first (first_snapshot asked) (read_pair (state first).seen (state second).seen)
  pub side : IsTrue (state first).tells → IsTrue (state second).tells → pair.side ≡ side_of (records (state first).seen) (records (state second).seen)
  pub rests : pair.doubt ≡ Nothing
  pub first_bytes :
      IsTrue (state first).tells → IsTrue (state second).tells →
      (state (first_disk pair)).seen
      ≡ mounted_first (first_snapshot asked) (records (state first).seen) (records (state second).seen) (state first).seen
  pub second_bytes : IsTrue (state second).tells → WithGate (end_of (records (state second).seen)) 0 (state second).seen (state (second_disk pair)).seen
  pub limit : pair.active.limit ≡ MOST_BYTES
  pub standby_limit : pair.standby.limit ≡ MOST_BYTES
  pub first_tells : (state (first_disk pair)).tells ≡ (state first).tells
  pub second_tells : (state (second_disk pair)).tells ≡ (state second).tells
  pub first_arms : (state (first_disk pair)).arms ≡ (state first).arms
  pub second_arms : (state (second_disk pair)).arms ≡ (state second).arms
  pub first_faults : (state (first_disk pair)).faults ≡ (state first).faults
  pub second_faults : (state (second_disk pair)).faults ≡ (state second).faults

-- What a refused mount hands back: both disks in their order, and why, which is what their records hold or a fault of one of them. Of the bytes
-- only gates are changed, and of two new disks those of the first record.
pub record Refuses {D : Type 0} (state : D → DiskState) (first second : D) (asked : Asked) (refused : D × D × MountRefused) : Type 0 where
  pub why :
      IsRefusal (IsTrue (state first).tells × IsTrue (state second).tells) asked (side_of (records (state first).seen) (records (state second).seen))
      (folded asked (read_pair (state first).seen (state second).seen)) refused.2
  pub cause :
      IsMountBlamed asked refused.2 (state first).faults (state second).faults (state refused.0).faults (state refused.1).faults
  pub first_bytes :
      IsTrue (state first).tells → IsTrue (state second).tells →
      IsMountTorn (first_snapshot asked) (records (state first).seen) (records (state second).seen) (state first).seen (state refused.0).seen
  pub second_bytes : IsTrue (state second).tells → IsGateTorn (end_of (records (state second).seen)) (state second).seen (state refused.1).seen
  pub first_tells : (state refused.0).tells ≡ (state first).tells
  pub second_tells : (state refused.1).tells ≡ (state second).tells
  pub first_arms : (state refused.0).arms ≡ (state first).arms
  pub second_arms : (state refused.1).arms ≡ (state second).arms
