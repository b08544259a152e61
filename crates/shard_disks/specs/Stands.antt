-- How the slots stand, and what each value of the type keeps.
use Rattle.std.specs.Prelude.{ℕ, ◌≡◌, ◌<◌, ◌≤◌, ◌-◌, ◌^◌, true, List, [], length, Option, Some, None, Vec, vec_capacity}
use Rattle.std.specs.declared.alloc.Global.{Global}
use Rattle.outside.specs.DiskModel.{DiskState}
use Rattle.gated_log.specs.Calls.{ImagesHave}
use Rattle.gated_log.specs.PlainLog.{AtRest, PlainLog, is_in_doubt}
use Rattle.pair_log.specs.declared.doubt.Doubt.TheVariants.{Nothing}
use Rattle.pair_log.specs.PlainPair.{HasEither, PlainPair, Told}
use Rattle.shard_disks.specs.Lists.{EachHas, HasAt}
use Rattle.shard_disks.specs.Outline.{SlotOutline}

abbrev pub RestsNow : {D : Type 0} → PlainLog D → Type 0
RestsNow log = log.standing ≡ AtRest

abbrev pub IsDoubted : {D : Type 0} → PlainLog D → Type 0
IsDoubted log = is_in_doubt log.standing ≡ true

-- each slot is at rest, but for the one that is doubted
abbrev pub LogsStand : {D : Type 0} → Option ℕ → List (PlainLog D) → Type 0
LogsStand None logs = EachHas RestsNow logs
LogsStand (Some place) logs = HasAt place IsDoubted RestsNow logs

-- the same of the slots as they are outlined
abbrev pub SlotsStand : Option ℕ → List SlotOutline → Type 0
SlotsStand None slots = EachHas (λ slot. slot.standing ≡ AtRest) slots
SlotsStand (Some place) slots = HasAt place (λ slot. is_in_doubt slot.standing ≡ true) (λ slot. slot.standing ≡ AtRest) slots

-- There is a snapshot, and the records can be counted.
pub record IsCounted (payloads : List (List ℕ)) : Type 0 where
  pub some : 0 < length payloads
  pub few : length payloads ≤ 2 ^ 64 - 1

-- what every value of the type keeps
pub record IsDisks {D : Type 0} (state : D → DiskState) (manifest : PlainPair D) (slots : List (PlainLog D)) (doubted : Option ℕ) : Type 0 where
  pub eight : length slots ≡ 8
  pub manifest_rests : manifest.doubt ≡ Nothing
  pub stand : LogsStand doubted slots
  pub manifest_has : HasEither state manifest
  pub counted : Told state manifest → IsCounted manifest.active.payloads
  pub slots_have : EachHas (ImagesHave state) slots

-- an empty vector with room for all disks
pub record IsRoom {D : Type 0} (room : Vec D Global) : Type 0 where
  pub empty : room.items ≡ []
  pub enough : 10 ≤ vec_capacity room
