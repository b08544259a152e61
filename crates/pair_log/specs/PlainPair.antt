-- What callers see of a pair of logs.
use Rattle.std.specs.Prelude.{ℕ, ◌≡◌, ◌⊎◌, ◌^◌, ◌<◌, Bool, true, false, not, IsTrue, List, [], ◌∷◌, length}
use Rattle.outside.specs.Along.{Keeps, WithinBoth}
use Rattle.outside.specs.DiskModel.{DiskState}
use Rattle.gated_log.specs.PlainLog.{AllHave, AtRest, Lost, PlainLog, Standing, is_in_doubt, with_doubted}
use Rattle.gated_log.specs.Records.{records}
use Rattle.pair_log.specs.declared.doubt.Doubt.{Doubt}
use Rattle.pair_log.specs.declared.doubt.Doubt.TheVariants.{Nothing, Commit, Rewrite, Restart}
use Rattle.pair_log.specs.declared.side.Side.{Side}
use Rattle.pair_log.specs.declared.side.Side.TheVariants.{First, Second}
use Rattle.pair_log.specs.Sides.{first_of, other_side, second_of}
use Rattle.pair_log.specs.Epochs.{epoch_of, next_epoch, read_pair, second_counts}

-- The active log, which counts, and the standby, which the next rewrite makes active; which of the disks is the active one;
-- and what both disks were before each call that moved one of them.
pub record PlainPair (D : Type 0) : Type 0 where
  pub active : PlainLog D
  pub standby : PlainLog D
  pub side : Side
  pub epoch : ℕ
  pub doubt : Doubt
  pub past : List (D × D)

abbrev pub first_disk : {D : Type 0} → PlainPair D → D
first_disk pair = first_of pair.side pair.active.disk pair.standby.disk

abbrev pub second_disk : {D : Type 0} → PlainPair D → D
second_disk pair = second_of pair.side pair.active.disk pair.standby.disk

abbrev pub both_disks : {D : Type 0} → PlainPair D → D × D
both_disks pair = (first_disk pair, second_disk pair)

-- the limits of the disks, in their order
abbrev pub first_limit : {D : Type 0} → PlainPair D → ℕ
first_limit pair = first_of pair.side pair.active.limit pair.standby.limit

abbrev pub second_limit : {D : Type 0} → PlainPair D → ℕ
second_limit pair = second_of pair.side pair.active.limit pair.standby.limit

-- record 0 and those after it
abbrev pub head_of : List (List ℕ) → List ℕ
head_of [] = []
head_of (payload ∷ payloads) = payload

abbrev pub tail_of : List (List ℕ) → List (List ℕ)
tail_of [] = []
tail_of (payload ∷ payloads) = payloads

-- whether the disk with these records counts beside the other one's
abbrev pub counts : Side → List (List ℕ) → List (List ℕ) → Bool
counts First records standby = not (second_counts records standby)
counts Second records standby = second_counts standby records

-- each image of the standby has no record, or a record 0 whose epoch isn't the later one
abbrev pub AllOlder : Side → List (List ℕ) → (List ℕ → Type 0) → Type 0
AllOlder side payloads images = (image : List ℕ) → images image → counts side payloads (records image) ≡ true

-- how the two logs stand
abbrev pub StandsSo : Doubt → Standing → Standing → Type 0
StandsSo Nothing active standby = (active ≡ AtRest) × (is_in_doubt standby ≡ false)
StandsSo Commit active standby = (is_in_doubt active ≡ true) × (is_in_doubt standby ≡ false)
StandsSo Rewrite active standby = (active ≡ AtRest) × (is_in_doubt standby ≡ true)
StandsSo Restart active standby = (active ≡ AtRest) × (standby ≡ Lost)

-- the list with what is in doubt
abbrev pub after_of : Doubt → List (List ℕ) → Standing → Standing → List (List ℕ)
after_of Nothing payloads active standby = payloads
after_of Commit payloads active standby = with_doubted active payloads
after_of Rewrite payloads active standby = with_doubted standby []
after_of Restart payloads active standby = payloads

abbrev pub after_doubt : {D : Type 0} → PlainPair D → List (List ℕ)
after_doubt pair = after_of pair.doubt pair.active.payloads pair.active.standing pair.standby.standing

-- the log whose gate is in doubt
abbrev pub doubted_of : {D : Type 0} → Doubt → PlainLog D → PlainLog D → PlainLog D
doubted_of Rewrite active standby = standby
doubted_of doubt active standby = active

abbrev pub doubted_log : {D : Type 0} → PlainPair D → PlainLog D
doubted_log pair = doubted_of pair.doubt pair.active pair.standby

abbrev pub IsEither : List (List ℕ) → List (List ℕ) → List (List ℕ) → Type 0
IsEither before after list = (list ≡ before) ⊎ (list ≡ after)

-- both disks tell their bytes
abbrev pub Told : {D : Type 0} → (D → DiskState) → PlainPair D → Type 0
Told state pair = IsTrue (state pair.active.disk).tells × IsTrue (state pair.standby.disk).tells

-- what a mount would read from each two images has P
abbrev pub AllRead : (List ℕ → Type 0) → (List ℕ → Type 0) → (List (List ℕ) → Type 0) → Type 0
AllRead first second P = (a b : List ℕ) → first a → second b → P (read_pair a b)

abbrev pub PairReads : {D : Type 0} → (D → DiskState) → PlainPair D → (List (List ℕ) → Type 0) → Type 0
PairReads state pair P = AllRead (state (first_disk pair)).may_leave (state (second_disk pair)).may_leave P

-- what a crash may leave of both disks reads as the list, or as that with what is in doubt
abbrev pub HasEither : {D : Type 0} → (D → DiskState) → PlainPair D → Type 0
HasEither state pair = Told state pair → PairReads state pair (IsEither pair.active.payloads (after_doubt pair))

-- At each moment from the old pair to the new one, what a mount would read from the images of both disks has P.
abbrev pub EachMoment : {D : Type 0} → (D → DiskState) → PlainPair D → PlainPair D → (List (List ℕ) → Type 0) → Type 0
EachMoment state old new P = Told state old
    → Keeps (WithinBoth state) (λ images. P (read_pair images.0 images.1)) old.past (both_disks old) new.past (both_disks new)

-- what the standby's images have beside these records
abbrev pub StandbyHas : Doubt → Side → List (List ℕ) → Standing → (List ℕ → Type 0) → Type 0
StandbyHas Rewrite side payloads standing images =
    AllHave standing [] images × (counts (other_side side) (with_doubted standing []) payloads ≡ true) × (counts side payloads [] ≡ true)
    × (epoch_of (head_of (with_doubted standing [])) ≡ next_epoch (epoch_of (head_of payloads)))
StandbyHas doubt side payloads standing images = AllOlder side payloads images

-- a log that is being rewritten has no record yet
abbrev pub IsFresh : Doubt → List (List ℕ) → Type 0
IsFresh Rewrite payloads = length payloads ≡ 0
IsFresh doubt payloads = Unit {0}

pub record IsToldPair {D : Type 0} (state : D → DiskState) (pair : PlainPair D) : Type 0 where
  pub epoch : pair.epoch ≡ epoch_of (head_of pair.active.payloads)
  pub active_has : AllHave pair.active.standing pair.active.payloads (state pair.active.disk).may_leave
  pub standby_has : StandbyHas pair.doubt pair.side pair.active.payloads pair.standby.standing (state pair.standby.disk).may_leave

pub record IsPair {D : Type 0} (state : D → DiskState) (pair : PlainPair D) : Type 0 where
  pub some : 0 < length pair.active.payloads
  pub stands : StandsSo pair.doubt pair.active.standing pair.standby.standing
  pub fresh : IsFresh pair.doubt pair.standby.payloads
  pub fits : pair.epoch < 2 ^ 64
  pub told : Told state pair → IsToldPair state pair

-- while these records are rewritten, an image of the standby has the new snapshot, or is older
abbrev pub IsNewOrOlder : Side → List (List ℕ) → List ℕ → List ℕ → Type 0
IsNewOrOlder side payloads snapshot image = (records image ≡ snapshot ∷ []) ⊎ (counts side payloads (records image) ≡ true)
