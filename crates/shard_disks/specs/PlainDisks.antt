-- What callers see of the ten disks of a shard.
use Rattle.std.specs.Prelude.{ℕ, List, [], ◌∷◌, ◌++◌, map, Option, Vec}
use Rattle.std.specs.declared.alloc.Global.{Global}
use Rattle.gated_log.specs.PlainLog.{PlainLog}
use Rattle.pair_log.specs.PlainPair.{PlainPair, first_disk, second_disk}
use Rattle.shard_disks.specs.Outline.{Outline, SlotOutline}

-- The pair of logs of the manifest, the logs of the slots, the slot whose last commit is in doubt, and what all disks were before each call that
-- moved one of them.
pub record PlainDisks (D : Type 0) : Type 0 where
  pub manifest : PlainPair D
  pub slots : List (PlainLog D)
  pub doubted : Option ℕ
  pub past : List (List D)

abbrev pub disk_of : {D : Type 0} → PlainLog D → D
disk_of log = log.disk

-- a log without its disk
abbrev pub outline_of : {D : Type 0} → PlainLog D → SlotOutline
outline_of log = record { limit = log.limit; payloads = log.payloads; end = log.end; spare = log.spare; standing = log.standing }

-- the disks in their order: the two of the manifest, and one of each slot
abbrev pub disks_in : {D : Type 0} → PlainPair D → List (PlainLog D) → List D
disks_in manifest slots = first_disk manifest ∷ (second_disk manifest ∷ map disk_of slots)

abbrev pub all_disks : {D : Type 0} → PlainDisks D → List D
all_disks d = disks_in d.manifest d.slots

abbrev pub outline : {D : Type 0} → PlainDisks D → Outline
outline d = record { manifest = d.manifest.active.payloads; side = d.manifest.side; slots = map outline_of d.slots; doubted = d.doubted }

-- ---- how the history is kept

-- of a pair that was mounted and the disks behind it, which stood while it was: what all disks were
abbrev pub behind_pair : {D : Type 0} → List D → D × D → List D
behind_pair others both = both.0 ∷ (both.1 ∷ others)

abbrev pub mounted_pair : {D : Type 0} → PlainPair D × Vec D Global → List (List D)
mounted_pair p = map (behind_pair p.1.items) p.0.past ++ (first_disk p.0 ∷ (second_disk p.0 ∷ p.1.items)) ∷ []

abbrev pub all_mounted : {D : Type 0} → List (PlainPair D × Vec D Global) → List (List D)
all_mounted [] = []
all_mounted (p ∷ ps) = mounted_pair p ++ all_mounted ps

abbrev pub recorded_disks : {D : Type 0} → PlainPair D × Vec (PlainLog D) Global → List D
recorded_disks p = disks_in p.0 p.1.items
