-- The one disk that a call moved, by its place: it alone is to blame.
use Rattle.std.proofs.Common.{◌≡◌, ℕ, zero, suc, ◌+◌, Result, Ok, Err, IfErr, List, [], ◌∷◌, map, Option, refl, sym, ap, subst, arith}
use Rattle.outside.specs.DiskModel.{DiskState}
use Rattle.gated_log.specs.Blame as log
use Rattle.gated_log.specs.PlainLog.{PlainLog}
use Rattle.gated_log.specs.declared.refused.LogRefused.{LogRefused}
use Rattle.pair_log.specs.declared.side.Side.{Side}
use Rattle.pair_log.specs.declared.side.Side.TheVariants.{First, Second}
use Rattle.pair_log.specs.PlainPair.{PlainPair}
use Rattle.pair_log.specs.Sides.{first_of, number_of, second_of}
use Rattle.shard_disks.specs.Blame.{IsBlamedAt}
use Rattle.shard_disks.specs.Images.{faults_of}
use Rattle.shard_disks.specs.Lists.{Moved}
use Rattle.shard_disks.specs.PlainDisks.{PlainDisks, all_disks, disk_of, disks_in, outline}
use Rattle.shard_disks.proofs.DiskLemmas.{all_moved}

blamed_for : {T : Type 0} (before now : ℕ) (why : LogRefused) → log.IsBlamed {T = T} before now (Err why) → log.IsBlamedFor before now why
blamed_for before now why b = record {
  later = b.later;
  fault = λ e. b.fault (ap (λ w. Err w) e);
  kept = λ other. b.kept (λ e. other cc);
}

blamed_at : {D : Type 0} (T : Type 0) (state : D → DiskState) (why : LogRefused) (i : ℕ) (ds es : List D)
    → Moved i (λ d e. log.IsBlamed {T = T} (state d).faults (state e).faults (Err why)) ds es → IsBlamedAt i why (faults_of state ds) (faults_of state es)
blamed_at T state why i [] es m = absurd m
blamed_at T state why i (d ∷ ds) [] m = absurd m
blamed_at T state why zero (d ∷ ds) (e ∷ es) m = (blamed_for (state d).faults (state e).faults why m.0, ap (faults_of state) m.1)
blamed_at T state why (suc i) (d ∷ ds) (e ∷ es) m = (ap (λ x. (state x).faults) m.0, blamed_at T state why i ds es m.1)

-- the disk of a slot
slot_at_blamed : {D T : Type 0} (state : D → DiskState) (m : PlainPair D) (olds news : List (PlainLog D)) (i : ℕ) (result : Result T LogRefused) (R : PlainLog D → PlainLog D → Type 0)
    → ((old new : PlainLog D) → R old new → log.IsBlamed (state old.disk).faults (state new.disk).faults result) → Moved i R olds news
    → IfErr result (λ why. IsBlamedAt (2 + i) why (faults_of state (disks_in m olds)) (faults_of state (disks_in m news)))
slot_at_blamed state m olds news i (Ok x) R has moved = tt
slot_at_blamed {T = T} state m olds news i (Err why) R has moved =
    let two_more : suc (suc i) ≡ 2 + i = omega arith in
    subst (λ n. IsBlamedAt n why (faults_of state (disks_in m olds)) (faults_of state (disks_in m news))) two_more
    (blamed_at T state why (suc (suc i)) (disks_in m olds) (disks_in m news)
    (all_moved R (λ d e. log.IsBlamed {T = T} (state d).faults (state e).faults (Err why)) has m i olds news moved))

pub slot_blamed : {D T : Type 0} (state : D → DiskState) (m : PlainPair D) (olds news : List (PlainLog D)) (doubted : Option ℕ) (past : List (List D)) (self : PlainDisks D) (i : ℕ) (result : Result T LogRefused)
    (R : PlainLog D → PlainLog D → Type 0) → record { manifest = m; slots = olds; doubted = doubted; past = past } ≡ self
    → ((old new : PlainLog D) → R old new → log.IsBlamed (state old.disk).faults (state new.disk).faults result) → Moved i R olds news
    → IfErr result (λ why. IsBlamedAt (2 + i) why (faults_of state (all_disks self)) (faults_of state (disks_in m news)))
slot_blamed state m olds news doubted past self i result R is has moved =
    subst (λ d. IfErr result (λ why. IsBlamedAt (2 + i) why (faults_of state (all_disks d)) (faults_of state (disks_in m news)))) is
    (slot_at_blamed state m olds news i result R has moved)

-- the disk of the manifest that counts
side_blamed : (why : LogRefused) (side : Side) (before now standby : ℕ) (others : List ℕ) → log.IsBlamedFor before now why
    → IsBlamedAt (number_of side) why (first_of side before standby ∷ second_of side before standby ∷ others) (first_of side now standby ∷ second_of side now standby ∷ others)
side_blamed why First before now standby others b = (b, refl)
side_blamed why Second before now standby others b = (refl, (b, refl))

faults_by : {D : Type 0} (state : D → DiskState) (side : Side) (active standby : D) (others : List D)
    → faults_of state (first_of side active standby ∷ second_of side active standby ∷ others)
    ≡ first_of side (state active).faults (state standby).faults ∷ second_of side (state active).faults (state standby).faults ∷ faults_of state others
faults_by state First active standby others = refl
faults_by state Second active standby others = refl

side_at_blamed : {D T : Type 0} (state : D → DiskState) (m n : PlainPair D) (logs : List (PlainLog D)) (result : Result T LogRefused) → n.side ≡ m.side → n.standby.disk ≡ m.standby.disk
    → log.IsBlamed (state m.active.disk).faults (state n.active.disk).faults result
    → IfErr result (λ why. IsBlamedAt (number_of m.side) why (faults_of state (disks_in m logs)) (faults_of state (disks_in n logs)))
side_at_blamed state m n logs (Ok x) side standby b = tt
side_at_blamed {D = D} state m n logs (Err why) side standby b =
    let before : List ℕ = faults_of state (disks_in m logs) in
    let a = m.active.disk in
    let e = n.active.disk in
    let s = m.standby.disk in
    let others : List D = map disk_of logs in
    subst (λ v. IsBlamedAt (number_of m.side) why before (faults_of state (first_of v e n.standby.disk ∷ second_of v e n.standby.disk ∷ others))) (sym side)
    (subst (λ d. IsBlamedAt (number_of m.side) why before (faults_of state (first_of m.side e d ∷ second_of m.side e d ∷ others))) (sym standby)
    (subst (λ l. IsBlamedAt (number_of m.side) why l (faults_of state (first_of m.side e s ∷ second_of m.side e s ∷ others))) (sym (faults_by state m.side a s others))
    (subst (IsBlamedAt (number_of m.side) why (first_of m.side (state a).faults (state s).faults ∷ second_of m.side (state a).faults (state s).faults ∷ faults_of state others)) (sym (faults_by state m.side e s others))
    (side_blamed why m.side (state a).faults (state e).faults (state s).faults (faults_of state others) (blamed_for (state a).faults (state e).faults why b)))))

pub manifest_blamed_at : {D T : Type 0} (state : D → DiskState) (m n : PlainPair D) (logs : List (PlainLog D)) (doubted : Option ℕ) (past : List (List D)) (self : PlainDisks D) (result : Result T LogRefused)
    → record { manifest = m; slots = logs; doubted = doubted; past = past } ≡ self → n.side ≡ m.side → n.standby.disk ≡ m.standby.disk
    → log.IsBlamed (state m.active.disk).faults (state n.active.disk).faults result
    → IfErr result (λ why. IsBlamedAt (number_of (outline self).side) why (faults_of state (all_disks self)) (faults_of state (disks_in n logs)))
manifest_blamed_at state m n logs doubted past self result is side standby b =
    subst (λ d. IfErr result (λ why. IsBlamedAt (number_of (outline d).side) why (faults_of state (all_disks d)) (faults_of state (disks_in n logs)))) is
    (side_at_blamed state m n logs result side standby b)
