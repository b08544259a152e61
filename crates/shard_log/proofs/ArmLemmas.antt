-- A failure of a disk is asked for.
use Rattle.std.proofs.Common.{◌≡◌, ℕ, Result, OnOk, OnErr, List, [], ◌∷◌, refl}
use Rattle.outside.specs.DiskModel.{DiskState, IsArmed}
use Rattle.shard_disks.specs.Images.{EachMoment, tells_of}
use Rattle.shard_disks.specs.Lists.{Moved, Pairwise}
use Rattle.shard_disks.specs.Outline.{IsEither, reads_after, reads_of}
use Rattle.shard_disks.specs.PlainDisks.{PlainDisks, all_disks, outline}
use Rattle.shard_reading.specs.Held.{HoldsEither}
use Rattle.shard_log.specs.Appending.{Arms}
use Rattle.shard_log.specs.PlainShardLog.{IsShardLog, PlainShardLog, known, stored}
use Rattle.shard_log.proofs.PartLemmas.{either_holds, moments_weaker}

pub armed_tells : {D : Type 0} (state : D → DiskState) (ds es : List D) → Pairwise (λ before now. IsArmed (state before) (state now)) ds es → tells_of state es ≡ tells_of state ds
armed_tells state [] [] armed = refl
armed_tells state [] (e ∷ es) armed = absurd armed
armed_tells state (d ∷ ds) [] armed = absurd armed
armed_tells state (d ∷ ds) (e ∷ es) armed = (λ i. armed.0.tells i ∷ armed_tells state ds es armed.1 i)

pub arms_are : {D E : Type 0} (state : D → DiskState) (old : PlainShardLog D) (is : IsShardLog state old) (arms : D → D → Type 0) (place : ℕ) (d : PlainDisks D) (result : Result Unit E) →
    OnOk result (Moved place arms (all_disks old.disks) (all_disks d)) → OnErr result (all_disks d ≡ all_disks old.disks) → outline d ≡ outline old.disks →
    Pairwise (λ before now. IsArmed (state before) (state now)) (all_disks old.disks) (all_disks d) →
    EachMoment state old.disks d (IsEither (reads_of (outline old.disks)) (reads_after (outline old.disks))) → Arms state arms place old (record old { disks = d }) result
arms_are state old is arms place d result armed refused same else moments = record {
  armed = armed;
  refused = refused;
  stays = refl;
  outline_stays = same;
  nothing_else = else;
  any_moment = λ told.
      moments_weaker state (IsEither (reads_of (outline old.disks)) (reads_after (outline old.disks))) (HoldsEither old.asked (known old) (stored old)) old.disks d
      (λ reads. either_holds old.asked (known old) (stored old) (reads_of (outline old.disks)) (reads_after (outline old.disks)) reads (is.told told).now (is.told told).after) moments told;
}
