-- What a crash may leave of a disk in memory, and the five images that a script can choose.
use Rattle.std.specs.Prelude.{ℕ, ◌≡◌, ◌⊎◌, ◌+◌, ◌/◌, ◌==◌, true, nat_le, if◌then◌else◌, List, [], ◌∷◌, length, take, drop, replicate, refl}
use Rattle.outside.specs.DiskModel.{DiskState, Torn, written_at}
use Rattle.disk_memory.specs.PlainDisk.{PlainWrite, State, PlainDisk, laid_at, grown, rested, seen_bytes}
use Rattle.disk_memory.specs.declared.images.TheConstants.{FILL_A5, FILL_01}

-- any bytes in the range of each pending write
abbrev pub IsImageOf : List ℕ → List PlainWrite → List ℕ → Type 0
IsImageOf base [] image = image ≡ base
IsImageOf base (w ∷ ws) image = (next : List ℕ) × Torn w.at (length w.bytes) base next × IsImageOf next ws image

abbrev pub IsImage : State → List ℕ → Type 0
IsImage s image = IsImageOf s.base s.writes image

-- one of these states has it as an image
abbrev pub HadImage : List State → List ℕ → Type 0
HadImage [] image = ⊥
HadImage (s ∷ past) image = IsImage s image ⊎ HadImage past image

-- a crash now or at a moment from this one on might have left it
abbrev pub LeftSince : State → List State → ℕ → List ℕ → Type 0
LeftSince s past t image = IsImage s image ⊎ HadImage (drop t past) image

-- what the trait's proofs know of it
abbrev pub disk_state : PlainDisk → DiskState
disk_state d = record {
  tells = true;
  size = length (seen_bytes d);
  seen = seen_bytes d;
  may_leave = IsImage d.state;
  calls = length d.past;
  left_since = LeftSince d.state d.past;
  faults = d.faults;
  arms = d.arms;
}

-- the intended bytes; the first half of them, and past the old end 00; and one byte everywhere in the range
abbrev pub whole : PlainWrite → List ℕ → List ℕ
whole w old = laid_at w.at w.bytes old

abbrev pub half : PlainWrite → List ℕ → List ℕ
half w old =
    if nat_le w.at (length old) then grown (w.at + length w.bytes) (written_at w.at (take (length w.bytes / 2) w.bytes) old) else old

abbrev pub filled : ℕ → PlainWrite → List ℕ → List ℕ
filled byte w old = laid_at w.at (replicate (length w.bytes) byte) old

-- the image of this number below 5 after one more write; image 0 keeps the old bytes and the old size
abbrev pub with_write : ℕ → PlainWrite → List ℕ → List ℕ
with_write n w old =
    if n == 0 then old
    else if n == 1 then whole w old
    else if n == 2 then half w old
    else if n == 3 then filled FILL_A5 w old
    else filled FILL_01 w old

abbrev pub image_after : ℕ → List ℕ → List PlainWrite → List ℕ
image_after n base [] = base
image_after n base (w ∷ ws) = image_after n (with_write n w base) ws

abbrev pub image_of : ℕ → State → List ℕ
image_of n s = image_after n s.base s.writes

-- What a crash leaves as a disk of its own: that image, with nothing pending and no call made yet. The counts and the
-- failures that are still to come stay.
abbrev pub crashed : ℕ → PlainDisk → PlainDisk
crashed n d = record {
  state = rested (image_of n d.state);
  past = [];
  faults = d.faults;
  arms = d.arms;
  number = d.number;
  failing = d.failing;
  starved = d.starved;
}

-- a pending write of three bytes over the last one of two
abbrev pending : State
pending = record { base = 1 ∷ 2 ∷ []; writes = record { at = 1; bytes = 7 ∷ 8 ∷ 9 ∷ []; taken = 3 } ∷ [] }

old_image : image_of 0 pending ≡ 1 ∷ 2 ∷ []
old_image = refl

whole_image : image_of 1 pending ≡ 1 ∷ 7 ∷ 8 ∷ 9 ∷ []
whole_image = refl

half_image : image_of 2 pending ≡ 1 ∷ 7 ∷ 0 ∷ 0 ∷ []
half_image = refl

filled_image : image_of 3 pending ≡ 1 ∷ 165 ∷ 165 ∷ 165 ∷ []
filled_image = refl

ones_image : image_of 4 pending ≡ 1 ∷ 1 ∷ 1 ∷ 1 ∷ []
ones_image = refl
