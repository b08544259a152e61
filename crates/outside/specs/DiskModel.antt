-- What the calls of a disk do to its bytes, what a crash may leave of them, and what it might have left since a moment.
use Rattle.std.specs.Prelude.{◌≡◌, ◌⊎◌, ℕ, ◌+◌, ◌≤◌, max, Bool, Result, OnOk, List, [], ◌∷◌, ◌++◌, length, take, drop, refl, slice_index_or}
use Rattle.std.proofs.Common.{arith, inl, inr, ap}
use Rattle.outside.specs.Cause.{HasCause}

-- What proofs know of a disk.
pub record DiskState : Type 1 where
  -- whether it tells its bytes
  pub tells : Bool
  -- how many bytes there are
  pub size : ℕ
  -- the bytes that reads give
  pub seen : List ℕ
  -- the images: what a crash now may leave
  pub may_leave : List ℕ → Type 0
  -- how many reads, writes and syncs were made; as a moment, the one before the next of these
  pub calls : ℕ
  -- what a crash at a moment from this one on might have left, during a call or between two
  pub left_since : ℕ → List ℕ → Type 0
  -- how often the disk has failed; the count stands still at the end of its type
  pub faults : ℕ
  -- how often a failure was asked for
  pub arms : ℕ

-- with these bytes at this place
abbrev pub written_at : ℕ → List ℕ → List ℕ → List ℕ
written_at at bytes old = take at old ++ bytes ++ drop (at + length bytes) old

abbrev pub Holds : List ℕ → ℕ → List ℕ → List ℕ → Type 0
Holds old at bytes new = new ≡ written_at at bytes old

-- After a write of so many bytes that was cut short: any bytes in its range and past the old end, the same elsewhere,
-- and any size between the old one and the new one.
pub record Torn (at count : ℕ) (old new : List ℕ) : Type 0 where
  pub before : take at new ≡ take at old
  pub after : drop (at + count) new ≡ drop (at + count) old
  pub no_shorter : length old ≤ length new
  pub no_longer : length new ≤ max (length old) (at + count)

-- each image of now is an image of before after a step
abbrev pub Follows : (List ℕ → List ℕ → Type 0) → (List ℕ → Type 0) → (List ℕ → Type 0) → Type 0
Follows step old new = (image : List ℕ) → new image → (before : List ℕ) × old before × step before image

-- each image of now is one of before
abbrev pub AddsNone : (List ℕ → Type 0) → (List ℕ → Type 0) → Type 0
AddsNone old new = (image : List ℕ) → new image → old image

-- a crash leaves these bytes and nothing else
abbrev pub Only : List ℕ → (List ℕ → Type 0) → Type 0
Only bytes images = (image : List ℕ) → images image → image ≡ bytes

-- Time goes on: a crash since a moment might have left what it might have left before, or what it may leave now.
pub record Elapses (old new : DiskState) : Type 0 where
  pub later : old.calls ≤ new.calls
  pub nothing_else : (t : ℕ) (image : List ℕ) → t ≤ old.calls → new.left_since t image → old.left_since t image ⊎ new.may_leave image
  pub keeps : (t : ℕ) (image : List ℕ) → t ≤ old.calls → old.left_since t image → new.left_since t image

-- One read, write or sync: it is counted, tells and arms stay, and a failure is a fault.
pub record IsCalled {T E : Type 0} (old new : DiskState) (result : Result T E) : Type 0 where
  pub tells : new.tells ≡ old.tells
  pub arms : new.arms ≡ old.arms
  pub calls : new.calls ≡ old.calls + 1
  pub time : Elapses old new
  pub cause : HasCause old.faults new.faults result

-- Nothing is written: bytes and size stay, and no image is added.
pub record WritesNone (old new : DiskState) : Type 0 where
  pub size : new.size ≡ old.size
  pub seen : new.seen ≡ old.seen
  pub images : AddsNone old.may_leave new.may_leave

-- The calls that a function made before it gave this result: at most so many, and so many where it is Ok.
pub record Runs {T E : Type 0} (least most : ℕ) (old new : DiskState) (result : Result T E) : Type 0 where
  pub tells : new.tells ≡ old.tells
  pub arms : new.arms ≡ old.arms
  pub later : old.calls ≤ new.calls
  pub at_most : new.calls ≤ old.calls + most
  pub at_least : OnOk result (old.calls + least ≤ new.calls)

-- A failure was asked for, and nothing else is changed: no call was made, and all moments are as they were.
pub record IsArmed (old new : DiskState) : Type 0 where
  pub tells : new.tells ≡ old.tells
  pub size : new.size ≡ old.size
  pub seen : new.seen ≡ old.seen
  pub images : AddsNone old.may_leave new.may_leave
  pub same_images : AddsNone new.may_leave old.may_leave
  pub calls : new.calls ≡ old.calls
  pub moments : (t : ℕ) (image : List ℕ) → new.left_since t image → old.left_since t image
  pub same_moments : (t : ℕ) (image : List ℕ) → old.left_since t image → new.left_since t image
  pub faults : new.faults ≡ old.faults
  pub arms : old.arms ≤ new.arms

-- A crash at any moment from the old state on leaves an image that has P.
pub record LeavesOnly (old new : DiskState) (P : List ℕ → Type 0) : Type 0 where
  pub later : old.calls ≤ new.calls
  pub each : (image : List ℕ) → new.left_since old.calls image → P image
  -- for those who began earlier
  pub before : (t : ℕ) (image : List ℕ) → t ≤ old.calls → new.left_since t image → old.left_since t image ⊎ P image

-- nothing has happened yet
pub leaves_only_at_first : (s : DiskState) (P : List ℕ → Type 0)
    → ((image : List ℕ) → s.left_since s.calls image → s.may_leave image) → ((image : List ℕ) → s.may_leave image → P image) → LeavesOnly s s P
leaves_only_at_first s P only has = record {
  later = omega arith;
  each = λ image left. has image (only image left);
  before = λ t image h left. inl left;
}

-- one more call, after which each image has P
pub leaves_only_then : (old mid new : DiskState) (P : List ℕ → Type 0)
    → LeavesOnly old mid P → Elapses mid new → ((image : List ℕ) → new.may_leave image → P image) → LeavesOnly old new P
leaves_only_then old mid new P so_far call has = record {
  later = omega (arith, so_far.later, call.later);
  each = λ image left. either_way image (call.nothing_else old.calls image so_far.later left);
  before = λ t image h left. or_earlier t image h (call.nothing_else t image (omega (arith, h, so_far.later)) left);
} where
  either_way : (image : List ℕ) → mid.left_since old.calls image ⊎ new.may_leave image → P image
  either_way image (inl left) = so_far.each image left
  either_way image (inr left) = has image left

  or_earlier : (t : ℕ) (image : List ℕ) → t ≤ old.calls → mid.left_since t image ⊎ new.may_leave image → old.left_since t image ⊎ P image
  or_earlier t image h (inl left) = so_far.before t image h left
  or_earlier t image h (inr left) = inr (has image left)

-- and then more calls, at any moment of which each image has Q
pub leaves_only_and : (old mid new : DiskState) (P Q : List ℕ → Type 0)
    → LeavesOnly old mid P → LeavesOnly mid new Q → ((image : List ℕ) → Q image → P image) → LeavesOnly old new P
leaves_only_and old mid new P Q p q has = record {
  later = omega (arith, p.later, q.later);
  each = λ image left. either_way image (q.before old.calls image p.later left);
  before = λ t image h left. or_earlier t image h (q.before t image (omega (arith, h, p.later)) left);
} where
  either_way : (image : List ℕ) → mid.left_since old.calls image ⊎ Q image → P image
  either_way image (inl left) = p.each image left
  either_way image (inr q) = has image q

  or_earlier : (t : ℕ) (image : List ℕ) → t ≤ old.calls → mid.left_since t image ⊎ Q image → old.left_since t image ⊎ P image
  or_earlier t image h (inl left) = p.before t image h left
  or_earlier t image h (inr q) = inr (has image q)

-- what follows from P holds at any moment too
pub leaves_only_weaker : (old new : DiskState) (P Q : List ℕ → Type 0)
    → LeavesOnly old new P → ((image : List ℕ) → P image → Q image) → LeavesOnly old new Q
leaves_only_weaker old new P Q p q = record {
  later = p.later;
  each = λ image left. q image (p.each image left);
  before = λ t image h left. or_q image (p.before t image h left);
} where
  or_q : {A : Type 0} (image : List ℕ) → A ⊎ P image → A ⊎ Q image
  or_q image (inl a) = inl a
  or_q image (inr p) = inr (q image p)

-- examples: a write of two bytes in the middle may leave any two there, and at the end any of the sizes between
torn_middle : Torn 1 2 (1 ∷ 2 ∷ 3 ∷ 4 ∷ []) (1 ∷ 9 ∷ 8 ∷ 4 ∷ [])
torn_middle = record { before = refl; after = refl; no_shorter = omega arith; no_longer = omega arith }

torn_end : Torn 2 3 (1 ∷ 2 ∷ []) (1 ∷ 2 ∷ 7 ∷ [])
torn_end = record { before = refl; after = refl; no_shorter = omega arith; no_longer = omega arith }

-- bytes outside the range stay, and the size doesn't fall
stays_before : Torn 1 1 (1 ∷ 2 ∷ []) (9 ∷ 2 ∷ []) → ⊥
stays_before torn = let e : 9 ≡ 1 = ap (λ bytes. slice_index_or bytes 0 0) torn.before in omega (arith, e)

never_shorter : Torn 0 1 (1 ∷ 2 ∷ []) (1 ∷ []) → ⊥
never_shorter torn = omega (arith, torn.no_shorter)
