-- What a crash may leave of several disks at one moment.
use Rattle.std.specs.Prelude.{ℕ, ◌≡◌, Bool, IsTrue, List, [], ◌∷◌, map}
use Rattle.std.specs.List.{list_all}
use Rattle.outside.specs.Along.{Keeps, left_between}
use Rattle.outside.specs.DiskModel.{DiskState}
use Rattle.shard_disks.specs.Lists.{Pairwise}
use Rattle.shard_disks.specs.Outline.{Reads, reads_in}
use Rattle.shard_disks.specs.PlainDisks.{PlainDisks, all_disks}

-- whether all disks tell their bytes
abbrev pub tell_all : {D : Type 0} → (D → DiskState) → List D → Bool
tell_all state disks = list_all (λ disk. (state disk).tells) disks

-- of several disks: their bytes, their counts of faults, whether they tell, and how often a failure was asked for
abbrev pub seen_of : {D : Type 0} → (D → DiskState) → List D → List (List ℕ)
seen_of state disks = map (λ disk. (state disk).seen) disks

abbrev pub faults_of : {D : Type 0} → (D → DiskState) → List D → List ℕ
faults_of state disks = map (λ disk. (state disk).faults) disks

abbrev pub tells_of : {D : Type 0} → (D → DiskState) → List D → List Bool
tells_of state disks = map (λ disk. (state disk).tells) disks

abbrev pub arms_of : {D : Type 0} → (D → DiskState) → List D → List ℕ
arms_of state disks = map (λ disk. (state disk).arms) disks

-- one image of each disk that a crash now may leave
abbrev pub MayLeaveAll : {D : Type 0} → (D → DiskState) → List D → List (List ℕ) → Type 0
MayLeaveAll state disks images = Pairwise (λ disk image. (state disk).may_leave image) disks images

-- one image of each disk that a crash between two lists of disks might have left at one moment
abbrev pub WithinAll : {D : Type 0} → (D → DiskState) → List D → List D → List (List ℕ) → Type 0
WithinAll state [] [] [] = Unit {0}
WithinAll state (d ∷ before) (e ∷ after) (image ∷ images) = left_between state d e image × WithinAll state before after images
WithinAll state before after images = ⊥

-- law: what stays as it was leaves what it may leave now
pub stays_now : {D : Type 0} (state : D → DiskState) → ((disk : D) (image : List ℕ) → (state disk).left_since (state disk).calls image → (state disk).may_leave image)
    → (disks : List D) (images : List (List ℕ)) → WithinAll state disks disks images → MayLeaveAll state disks images
stays_now state only [] [] w = tt
stays_now state only [] (image ∷ images) w = absurd w
stays_now state only (d ∷ disks) [] w = absurd w
stays_now state only (d ∷ disks) (image ∷ images) w = (only d image w.0, stays_now state only disks images w.1)

-- what a mount would read from what a crash may leave has P
abbrev pub AllRead : {D : Type 0} → (D → DiskState) → List D → (Reads → Type 0) → Type 0
AllRead state disks P = (images : List (List ℕ)) → MayLeaveAll state disks images → P (reads_in images)

-- At each moment from the old disks to the new ones, what a mount would read from their images has P.
abbrev pub EachMoment : {D : Type 0} → (D → DiskState) → PlainDisks D → PlainDisks D → (Reads → Type 0) → Type 0
EachMoment state old new P = IsTrue (tell_all state (all_disks old))
    → Keeps (WithinAll state) (λ images. P (reads_in images)) old.past (all_disks old) new.past (all_disks new)

-- the disks tell what they told, and what was asked of them to fail stays
pub record KeepsDisks {D : Type 0} (state : D → DiskState) (old new : List D) : Type 0 where
  pub tells : tells_of state new ≡ tells_of state old
  pub arms : arms_of state new ≡ arms_of state old
