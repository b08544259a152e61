-- A disk of the manifest moves.
use Rattle.std.proofs.Common.{◌≡◌, inl, inr, ℕ, ◌≤◌, IsTrue, Result, List, [], ◌∷◌, ◌++◌, map, None, Option, refl, sym, ap, subst, ◌∙◌, arith}
use Rattle.outside.specs.Along.{keeps_step, WithinBoth}
use Rattle.outside.specs.Cause.{Rose}
use Rattle.outside.specs.DiskModel.{DiskState, WritesNone}
use Rattle.gated_log.specs.Blame as log
use Rattle.gated_log.specs.PlainLog.{PlainLog}
use Rattle.gated_log.specs.Records.{records}
use Rattle.gated_log.specs.declared.refused.LogRefused.{LogRefused}
use Rattle.pair_log.specs.declared.side.Side.{Side}
use Rattle.pair_log.specs.declared.side.Side.TheVariants.{First, Second}
use Rattle.pair_log.specs.Epochs.{read_pair}
use Rattle.pair_log.specs.PlainPair as pair
use Rattle.pair_log.specs.PlainPair.{HasEither, PlainPair, after_doubt, after_of, both_disks, first_disk, second_disk}
use Rattle.pair_log.specs.Sides.{first_of, second_of}
use Rattle.shard_disks.specs.Blame.{IsBlamed, SomeRose}
use Rattle.shard_disks.specs.Calls.{IsRead}
use Rattle.shard_disks.specs.Images.{KeepsDisks, WithinAll, faults_of, tell_all}
use Rattle.shard_disks.specs.Lists.{EachHas, Pairwise}
use Rattle.shard_disks.specs.Outline.{reads_in}
use Rattle.shard_disks.specs.PlainDisks.{PlainDisks, all_disks, disk_of, disks_in, outline_of}
use Rattle.shard_disks.specs.Stands.{IsCounted, IsDisks, RestsNow}
use Rattle.shard_disks.proofs.DiskLemmas.{tell_kept, writes_no_byte}
use Rattle.shard_disks.proofs.HistoryLemmas.{step_of}
use Rattle.shard_disks.proofs.ImageLemmas.{ReadsSame, leave_each, lists, pairs_read, told_both, within_pair}
use Rattle.shard_disks.proofs.ListLemmas.{pairs_equal, pairs_mapped, pairs_same}
use Rattle.shard_disks.proofs.StandLemmas.{none_doubted, rest_read, rest_reads, rest_told}

-- both disks, in their order
by_side : {D : Type 0} (S : D → D → Type 0) (side : Side) (a b d e : D) → S a d → S b e → S (first_of side a b) (first_of side d e) × S (second_of side a b) (second_of side d e)
by_side S First a b d e active standby = (active, standby)
by_side S Second a b d e active standby = (standby, active)

-- a relation that each disk has to itself, and those of the pair to what they became
pub pair_moved : {D : Type 0} (S : D → D → Type 0) → ((d : D) → S d d) → (m n : PlainPair D) (logs : List (PlainLog D)) → n.side ≡ m.side → S m.active.disk n.active.disk → S m.standby.disk n.standby.disk
    → Pairwise S (disks_in m logs) (disks_in n logs)
pair_moved S same m n logs side active standby =
    let both = by_side S m.side m.active.disk m.standby.disk n.active.disk n.standby.disk active standby in
    subst (λ s. Pairwise S (disks_in m logs) (first_of s n.active.disk n.standby.disk ∷ (second_of s n.active.disk n.standby.disk ∷ map disk_of logs))) (sym side)
    (both.0, (both.1, pairs_same S same (map disk_of logs)))

rose_by : {D : Type 0} (f : D → ℕ) (side : Side) (a b d e : D) (before now : List ℕ) → Rose (f a) (f d) → SomeRose (f (first_of side a b) ∷ (f (second_of side a b) ∷ before)) (f (first_of side d e) ∷ (f (second_of side d e) ∷ now))
rose_by f First a b d e before now rose = inl rose
rose_by f Second a b d e before now rose = inr (inl rose)

module _ {D : Type 0} (state : D → DiskState) (m n : PlainPair D) (logs : List (PlainLog D)) (side : n.side ≡ m.side) where
  pub pair_keeps : (state n.active.disk).tells ≡ (state m.active.disk).tells → (state n.active.disk).arms ≡ (state m.active.disk).arms → n.standby.disk ≡ m.standby.disk → KeepsDisks state (disks_in m logs) (disks_in n logs)
  pair_keeps tells arms standby = record {
    tells = pairs_equal (λ d. (state d).tells) (disks_in m logs) (disks_in n logs) (pair_moved (λ d e. (state e).tells ≡ (state d).tells) (λ d. refl) m n logs side tells (ap (λ d. (state d).tells) standby));
    arms = pairs_equal (λ d. (state d).arms) (disks_in m logs) (disks_in n logs) (pair_moved (λ d e. (state e).arms ≡ (state d).arms) (λ d. refl) m n logs side arms (ap (λ d. (state d).arms) standby));
  }

  pub pair_blamed : {T : Type 0} (result : Result T LogRefused) → n.standby.disk ≡ m.standby.disk → log.IsBlamed (state m.active.disk).faults (state n.active.disk).faults result
      → IsBlamed (faults_of state (disks_in m logs)) (faults_of state (disks_in n logs)) result
  pair_blamed result standby blamed = record {
    later = pairs_mapped (λ d. (state d).faults) (λ b c. b ≤ c) (disks_in m logs) (disks_in n logs)
        (pair_moved (λ d e. (state d).faults ≤ (state e).faults) (λ d. omega arith) m n logs side blamed.later (let e : (state n.standby.disk).faults ≡ (state m.standby.disk).faults = ap (λ d. (state d).faults) standby in omega (arith, e)));
    fault = λ fault. subst (λ s. SomeRose (faults_of state (disks_in m logs)) ((state (first_of s n.active.disk n.standby.disk)).faults ∷ ((state (second_of s n.active.disk n.standby.disk)).faults ∷ faults_of state (map disk_of logs)))) (sym side)
        (rose_by (λ d. (state d).faults) m.side m.active.disk m.standby.disk n.active.disk n.standby.disk (faults_of state (map disk_of logs)) (faults_of state (map disk_of logs)) (blamed.fault fault));
    kept = λ other. pairs_equal (λ d. (state d).faults) (disks_in m logs) (disks_in n logs)
        (pair_moved (λ d e. (state e).faults ≡ (state d).faults) (λ d. refl) m n logs side (blamed.kept other) (ap (λ d. (state d).faults) standby));
  }

-- a read of the snapshot
module _ {D : Type 0} (state : D → DiskState) (m n : PlainPair D) (logs : List (PlainLog D)) (doubted : Option ℕ) (disks : IsDisks state m logs doubted) (none : doubted ≡ None)
    (stays : n ≡ record m { active = record m.active { disk = n.active.disk }; past = m.past ++ both_disks m ∷ [] }) (has : HasEither state n)
    (tells : (state n.active.disk).tells ≡ (state m.active.disk).tells) (arms : (state n.active.disk).arms ≡ (state m.active.disk).arms) where
  same_side : n.side ≡ m.side
  same_side = ap (λ (p : PlainPair D). p.side) stays

  same_standby : n.standby.disk ≡ m.standby.disk
  same_standby = ap (λ (p : PlainPair D). p.standby.disk) stays

  same_payloads : n.active.payloads ≡ m.active.payloads
  same_payloads = ap (λ (p : PlainPair D). p.active.payloads) stays

  rest : EachHas RestsNow logs
  rest = none_doubted doubted logs disks.stand none

  pub manifest_disks : IsDisks state n logs doubted
  manifest_disks = record {
    eight = disks.eight;
    manifest_rests = ap (λ (p : PlainPair D). p.doubt) stays ∙ disks.manifest_rests;
    stand = disks.stand;
    manifest_has = has;
    counted = λ told. subst IsCounted (sym same_payloads)
        (disks.counted (subst IsTrue tells told.0, subst (λ d. IsTrue (state d).tells) same_standby told.1));
    slots_have = disks.slots_have;
  }

  keeps : KeepsDisks state (disks_in m logs) (disks_in n logs)
  keeps = pair_keeps state m n logs same_side tells arms same_standby

  moments : (only : (disk : D) (image : List ℕ) → (state disk).left_since (state disk).calls image → (state disk).may_leave image)
      → pair.EachMoment state m n (pair.IsEither m.active.payloads (after_doubt m)) → IsTrue (tell_all state (disks_in m logs))
      → (images : List (List ℕ)) → WithinAll state (disks_in m logs) (disks_in n logs) images → reads_in images ≡ record { manifest = m.active.payloads; slots = lists logs }
  moments only each told =
      within_pair state only m n logs (λ list. list ≡ m.active.payloads) (λ reads. reads ≡ record { manifest = m.active.payloads; slots = lists logs })
      (λ a b first second. either_way (step_of (WithinBoth state) (λ images. pair.IsEither m.active.payloads (after_doubt m) (read_pair images.0 images.1)) m.past (both_disks m) n.past (both_disks n)
      (ap (λ (p : PlainPair D). p.past) stays) (each (told_both state m logs told).0) (a, b) (first, second)))
      (λ list images same left. ap (λ l. record { manifest = l; slots = map records images }) same
      ∙ ap (λ l. record { manifest = m.active.payloads; slots = l })
      (pairs_read logs images (leave_each state ReadsSame (λ log. (RestsNow log × _) × _) (rest_reads state) logs images (rest_told state m logs doubted disks rest told) left)))
    where
      either_way : {list : List (List ℕ)} → pair.IsEither m.active.payloads (after_doubt m) list → list ≡ m.active.payloads
      either_way (inl e) = e
      either_way (inr e) = e ∙ ap (λ d. after_of d m.active.payloads m.active.standing m.standby.standing) disks.manifest_rests

  pub manifest_read : (only : (disk : D) (image : List ℕ) → (state disk).left_since (state disk).calls image → (state disk).may_leave image)
      → pair.EachMoment state m n (pair.IsEither m.active.payloads (after_doubt m)) → WritesNone (state m.active.disk) (state n.active.disk)
      → (past later : List (List D)) (self : PlainDisks D)
      → record { manifest = m; slots = logs; doubted = doubted; past = past } ≡ self → later ≡ past ++ disks_in m logs ∷ []
      → IsRead state self (record { manifest = n; slots = logs; doubted = doubted; past = later })
  manifest_read only each writes past later self is recorded = subst (λ (d : PlainDisks D). IsRead state d (record { manifest = n; slots = logs; doubted = doubted; past = later })) is (record {
    stays = ap (λ (p : PlainPair D). record { manifest = p.active.payloads; side = p.side; slots = map outline_of logs; doubted = doubted }) stays;
    disks = keeps;
    seen = pairs_equal (λ d. (state d).seen) (disks_in m logs) (disks_in n logs) (pair_moved (λ d e. (state e).seen ≡ (state d).seen) (λ d. refl) m n logs same_side writes.seen (ap (λ d. (state d).seen) same_standby));
    writes_none = pair_moved (λ d e. WritesNone (state d) (state e)) (λ d. writes_no_byte (state d)) m n logs same_side writes
        (subst (λ d. WritesNone (state m.standby.disk) (state d)) (sym same_standby) (writes_no_byte (state m.standby.disk)));
    any_moment = λ told. keeps_step (WithinAll state) (λ images. reads_in images ≡ record { manifest = m.active.payloads; slots = lists logs }) past (disks_in m logs) later (disks_in n logs) recorded (moments only each told);
    images = λ told. rest_read state n logs doubted manifest_disks rest (tell_kept state (disks_in m logs) (disks_in n logs) keeps.tells told);
  })

  pub manifest_blamed : (result : Result Unit LogRefused) → log.IsBlamed (state m.active.disk).faults (state n.active.disk).faults result → (past : List (List D)) (self : PlainDisks D)
      → record { manifest = m; slots = logs; doubted = doubted; past = past } ≡ self → IsBlamed (faults_of state (all_disks self)) (faults_of state (disks_in n logs)) result
  manifest_blamed result blamed past self is = subst (λ (d : PlainDisks D). IsBlamed (faults_of state (all_disks d)) (faults_of state (disks_in n logs)) result) is
      (pair_blamed state m n logs same_side result same_standby blamed)
