-- A failure is asked for.
use Rattle.std.proofs.Common.{◌≡◌, ℕ, zero, suc, ◌≤◌, ◌-◌, Result, OnOk, OnErr, List, [], ◌∷◌, ◌++◌, map, None, Some, Option, refl, sym, ap, subst, ◌∙◌, arith}
use Rattle.outside.specs.Along.{keeps_step}
use Rattle.outside.specs.DiskModel.{DiskState, IsArmed}
use Rattle.outside.specs.Results.{on_ok_then}
use Rattle.gated_log.specs.Calls.{ImagesHave}
use Rattle.gated_log.specs.PlainLog.{AllHave, PlainLog, is_in_doubt}
use Rattle.pair_log.specs.PlainPair.{PlainPair, both_disks, first_disk, second_disk}
use Rattle.shard_disks.specs.Images.{EachMoment, MayLeaveAll, WithinAll}
use Rattle.shard_disks.specs.Lists.{Moved, Pairwise}
use Rattle.shard_disks.specs.Outline.{IsEither, reads_after, reads_in, reads_of}
use Rattle.shard_disks.specs.PlainDisks.{PlainDisks, disk_of, disks_in, outline, outline_of}
use Rattle.shard_disks.specs.SlotCalls.{ArmsLog}
use Rattle.shard_disks.specs.Stands.{IsDisks, IsDoubted, LogsStand, RestsNow}
use Rattle.shard_disks.proofs.AnswerLemmas.{on_err_then}
use Rattle.shard_disks.proofs.ImageLemmas.{lists, lists_after}
use Rattle.shard_disks.proofs.ListLemmas.{moved_each, moved_err, moved_length, moved_mapped, moved_ok, moved_pairs, moved_same, moved_stands, moved_weaker}
use Rattle.shard_disks.proofs.ManifestLemmas.{pair_moved}
use Rattle.shard_disks.proofs.StandLemmas.{either_read}

pub not_armed : (s : DiskState) → IsArmed s s
not_armed s = record {
  tells = refl;
  size = refl;
  seen = refl;
  images = λ image left. left;
  same_images = λ image left. left;
  calls = refl;
  moments = λ t image left. left;
  same_moments = λ t image left. left;
  faults = refl;
  arms = omega arith;
}

module _ {D : Type 0} (state : D → DiskState) where
  abbrev pub AreArmed : List D → List D → Type 0
  AreArmed old new = Pairwise (λ before now. IsArmed (state before) (state now)) old new

  -- they leave what they left before
  pub armed_left : ((disk : D) (image : List ℕ) → (state disk).left_since (state disk).calls image → (state disk).may_leave image)
      → (ds es : List D) (images : List (List ℕ)) → AreArmed ds es → WithinAll state ds es images → MayLeaveAll state ds images
  armed_left only [] [] [] armed w = tt
  armed_left only [] [] (x ∷ images) armed w = absurd w
  armed_left only [] (e ∷ es) images armed w = absurd armed
  armed_left only (d ∷ ds) [] images armed w = absurd armed
  armed_left only (d ∷ ds) (e ∷ es) [] armed w = absurd w
  armed_left only (d ∷ ds) (e ∷ es) (x ∷ images) armed w = (only d x (armed.0.moments (state d).calls x w.0), armed_left only ds es images armed.1 w.1)

  -- at each moment all images read one way or the other
  pub armed_moments : ((disk : D) (image : List ℕ) → (state disk).left_since (state disk).calls image → (state disk).may_leave image)
      → (m n : PlainPair D) (olds news : List (PlainLog D)) (doubted : Option ℕ) → IsDisks state m olds doubted → AreArmed (disks_in m olds) (disks_in n news)
      → (past later : List (List D)) (self : PlainDisks D) → record { manifest = m; slots = olds; doubted = doubted; past = past } ≡ self → later ≡ past ++ disks_in m olds ∷ []
      → EachMoment state self (record { manifest = n; slots = news; doubted = doubted; past = later }) (IsEither (reads_of (outline self)) (reads_after (outline self)))
  armed_moments only m n olds news doubted disks armed past later self is recorded =
      subst (λ (d : PlainDisks D). EachMoment state d (record { manifest = n; slots = news; doubted = doubted; past = later }) (IsEither (reads_of (outline d)) (reads_after (outline d)))) is
      (λ told. keeps_step (WithinAll state) (λ images. IsEither (record { manifest = m.active.payloads; slots = lists olds }) (record { manifest = m.active.payloads; slots = lists_after olds }) (reads_in images))
      past (disks_in m olds) later (disks_in n news) recorded
      (λ images w. either_read state m olds doubted disks told images (armed_left only (disks_in m olds) (disks_in n news) images armed w)))

  -- ---- on the disk of a slot

  pub slots_armed : {T E : Type 0} (arms : D → D → Type 0) (result : Result T E) (m : PlainPair D) (i : ℕ) (olds news : List (PlainLog D)) → Moved i (ArmsLog state arms result) olds news
      → AreArmed (disks_in m olds) (disks_in m news)
  slots_armed arms result m i olds news moved = (
    not_armed (state (first_disk m)),
    (
      not_armed (state (second_disk m)),
      moved_pairs disk_of (ArmsLog state arms result) (λ d e. IsArmed (state d) (state e)) (λ d. not_armed (state d)) (λ old new c. c.nothing_else) i olds news moved,
    ),
  )

  armed_has : (old new : PlainLog D) → new ≡ record old { disk = new.disk } → IsArmed (state old.disk) (state new.disk) → ImagesHave state old → ImagesHave state new
  armed_has old new stays armed has told =
      subst (λ (l : PlainLog D). AllHave l.standing l.payloads (state new.disk).may_leave) (sym stays) (λ image left. has (sym armed.tells ∙ told) image (armed.images image left))

  pub armed_disks : {T E : Type 0} (arms : D → D → Type 0) (result : Result T E) (m : PlainPair D) (olds news : List (PlainLog D)) (doubted : Option ℕ) (i : ℕ)
      → IsDisks state m olds doubted → Moved i (ArmsLog state arms result) olds news → IsDisks state m news doubted
  armed_disks arms result m olds news doubted i disks moved = record {
    eight = moved_length (ArmsLog state arms result) i olds news moved ∙ disks.eight;
    manifest_rests = disks.manifest_rests;
    stand = stand_then doubted disks.stand;
    manifest_has = disks.manifest_has;
    counted = disks.counted;
    slots_have = moved_each (ArmsLog state arms result) (ImagesHave state) (λ old new c has. armed_has old new c.stays c.nothing_else has) i olds news moved disks.slots_have;
  } where
    same : (old new : PlainLog D) → ArmsLog state arms result old new → new.standing ≡ old.standing
    same old new c = ap (λ (l : PlainLog D). l.standing) c.stays

    stand_then : (d : Option ℕ) → LogsStand d olds → LogsStand d news
    stand_then None stand = moved_each (ArmsLog state arms result) RestsNow (λ old new c r. same old new c ∙ r) i olds news moved stand
    stand_then (Some j) stand = moved_stands (ArmsLog state arms result) IsDoubted RestsNow (λ old new c d. ap is_in_doubt (same old new c) ∙ d) (λ old new c r. same old new c ∙ r) j i olds news moved stand

  pub slots_outlined : {T E : Type 0} (arms : D → D → Type 0) (result : Result T E) (i : ℕ) (olds news : List (PlainLog D)) → Moved i (ArmsLog state arms result) olds news → map outline_of news ≡ map outline_of olds
  slots_outlined arms result i olds news moved = moved_same outline_of (ArmsLog state arms result) (λ old new c. ap outline_of c.stays) i olds news moved

  pub slots_arm : {T E : Type 0} (arms : D → D → Type 0) (result : Result T E) (m : PlainPair D) (place : ℕ) (olds news : List (PlainLog D)) → 2 ≤ place → Moved (place - 2) (ArmsLog state arms result) olds news
      → OnOk result (Moved place arms (disks_in m olds) (disks_in m news))
  slots_arm arms result m zero olds news h moved = absurd (omega (arith, h))
  slots_arm arms result m (suc zero) olds news h moved = absurd (omega (arith, h))
  slots_arm arms result m (suc (suc i)) olds news h moved =
      on_ok_then result (λ armed. (refl, (refl, moved_mapped disk_of (λ old new. arms old.disk new.disk) arms (λ old new a. a) i olds news armed)))
      (moved_ok result (λ old new. arms old.disk new.disk) i olds news (moved_weaker _ _ (λ old new c. c.armed) i olds news (subst (λ n. Moved n (ArmsLog state arms result) olds news) behind moved)))
    where
      behind : suc (suc i) - 2 ≡ i
      behind = omega arith

  pub slots_refused : {T E : Type 0} (arms : D → D → Type 0) (result : Result T E) (m : PlainPair D) (i : ℕ) (olds news : List (PlainLog D)) → Moved i (ArmsLog state arms result) olds news
      → OnErr result (disks_in m news ≡ disks_in m olds)
  slots_refused arms result m i olds news moved =
      on_err_then result (λ same. ap (λ l. first_disk m ∷ (second_disk m ∷ l)) (moved_same disk_of (λ (old new : PlainLog D). new ≡ old) (λ old new e. ap disk_of e) i olds news same))
      (moved_err result (λ (old new : PlainLog D). new ≡ old) i olds news (moved_weaker _ _ (λ old new c. c.refused) i olds news moved))

  -- ---- on a disk of the manifest

  pub manifest_armed : (m n : PlainPair D) (logs : List (PlainLog D))
      → n ≡ record m { active = record m.active { disk = n.active.disk }; standby = record m.standby { disk = n.standby.disk }; past = m.past ++ both_disks m ∷ [] }
      → IsArmed (state m.active.disk) (state n.active.disk) → IsArmed (state m.standby.disk) (state n.standby.disk) → AreArmed (disks_in m logs) (disks_in n logs)
  manifest_armed m n logs stays active standby = pair_moved (λ d e. IsArmed (state d) (state e)) (λ d. not_armed (state d)) m n logs (ap (λ (p : PlainPair D). p.side) stays) active standby
