-- What a change of the state does to the images and to the moments.
use Rattle.std.proofs.Common.{◌≡◌, ◌⊎◌, inl, inr, ⊎_elim, ℕ, zero, suc, ◌+◌, ◌-◌, ◌^◌, ◌<◌, ◌≤◌, max, Bool, true, false, nat_le, nat_lt, Result, Ok, Err, if◌then◌else◌, List, [], ◌∷◌, ◌++◌, length, take, drop, refl, sym, ap, ◌∙◌, subst, arith, rules, length-append, length-take}
use Rattle.std.proofs.lemmas.List.{take_all}
use borrow.Author.Tests.{ltb-true, ltb-false}
use Rattle.outside.specs.Cause.{HasCause, Rose, next_count}
use Rattle.outside.specs.DiskModel.{AddsNone, Elapses, Follows, Holds, IsCalled, Torn, WritesNone, written_at}
use Rattle.outside.specs.Torn.{length_written}
use Rattle.disk_memory.specs.PlainDisk.{PlainWrite, State, PlainDisk, laid_at, seen_after, seen_of, with_pending, settled}
use Rattle.disk_memory.specs.Images.{IsImageOf, IsImage, HadImage, LeftSince, disk_state}
use Rattle.disk_memory.specs.Laws.{seen_is_image, torn_laid}

-- where the place isn't past the end
pub laid_is : (at : ℕ) (piece old : List ℕ) → at ≤ length old → laid_at at piece old ≡ written_at at piece old
laid_is at piece old h =
    let e : nat_le at (length old) ≡ true = search (rules, h) in
    ap (λ (b : Bool). if b then written_at at piece old else old) e

-- one more write
pub seen_of_push : (base : List ℕ) (ws : List PlainWrite) (w : PlainWrite) → seen_of base (ws ++ w ∷ []) ≡ seen_after (seen_of base ws) w
seen_of_push base [] w = refl
seen_of_push base (v ∷ ws) w = seen_of_push (seen_after base v) ws w

pub image_before : (base : List ℕ) (ws : List PlainWrite) (w : PlainWrite) (image : List ℕ) → IsImageOf base (ws ++ w ∷ []) image
    → (before : List ℕ) × IsImageOf base ws before × Torn w.at (length w.bytes) before image
image_before base [] w image (next, torn, is) = (base, refl, subst (Torn w.at (length w.bytes) base) (sym is) torn)
image_before base (v ∷ ws) w image (next, torn, rest) =
    let (before, is, step) = image_before next ws w image rest in
    (before, (next, torn, is), step)

-- nothing but what reads give, once nothing is pending
pub settled_adds_none : (s : State) → AddsNone (IsImage s) (IsImage (settled s))
settled_adds_none s image is = subst (IsImageOf s.base s.writes) (sym is) (seen_is_image s.base s.writes)

keeps : (past : List State) (s : State) (image : List ℕ) → HadImage past image → HadImage (past ++ s ∷ []) image
keeps [] s image had = absurd had
keeps (p ∷ past) s image (inl here) = inl here
keeps (p ∷ past) s image (inr there) = inr (keeps past s image there)

adds : (past : List State) (s : State) (image : List ℕ) → HadImage (past ++ s ∷ []) image → HadImage past image ⊎ IsImage s image
adds [] s image (inl here) = inr here
adds [] s image (inr none) = absurd none
adds (p ∷ past) s image (inl here) = inl (inl here)
adds (p ∷ past) s image (inr there) = ⊎_elim (λ had. inl (inr had)) (λ new. inr new) (adds past s image there)

newest : (past : List State) (s : State) (image : List ℕ) → IsImage s image → HadImage (past ++ s ∷ []) image
newest [] s image is = inl is
newest (p ∷ past) s image is = inr (newest past s image is)

drop_push : (t : ℕ) (past : List State) (s : State) → t ≤ length past → drop t (past ++ s ∷ []) ≡ drop t past ++ s ∷ []
drop_push zero past s le = refl
drop_push (suc t) [] s le = absurd (omega arith)
drop_push (suc t) (p ∷ past) s le = drop_push t past s (omega arith)

-- a call, before which the state was recorded
module _ (old new : PlainDisk) (was : new.past ≡ old.past ++ old.state ∷ []) where
  had_before : (t : ℕ) (image : List ℕ) → HadImage (drop t old.past) image ⊎ IsImage old.state image → LeftSince old.state old.past t image
  had_before t image (inl had) = inr had
  had_before t image (inr now) = inl now

  left_before : (t : ℕ) (image : List ℕ) → t ≤ length old.past → LeftSince new.state (old.past ++ old.state ∷ []) t image
      → LeftSince old.state old.past t image ⊎ IsImage new.state image
  left_before t image le (inl now) = inr now
  left_before t image le (inr had) =
      inl (had_before t image (adds (drop t old.past) old.state image (subst (λ (l : List State). HadImage l image) (drop_push t old.past old.state le) had)))

  left_after : (t : ℕ) (image : List ℕ) → t ≤ length old.past → LeftSince old.state old.past t image → HadImage (drop t (old.past ++ old.state ∷ [])) image
  left_after t image le left =
      subst (λ (l : List State). HadImage l image) (sym (drop_push t old.past old.state le)) (⊎_elim (newest (drop t old.past) old.state image) (keeps (drop t old.past) old.state image) left)

  one_more : length new.past ≡ length old.past + 1
  one_more = ap (λ (l : List State). length l) was ∙ length-append old.past (old.state ∷ [])

  elapses : Elapses (disk_state old) (disk_state new)
  elapses = record {
    later = omega (arith, one_more);
    nothing_else = λ t image le left. left_before t image le (subst (λ (l : List State). LeftSince new.state l t image) was left);
    keeps = λ t image le left. inr (subst (λ (l : List State). HadImage (drop t l) image) (sym was) (left_after t image le left));
  }

  is_called : {T E : Type 0} (result : Result T E) → new.arms ≡ old.arms → HasCause old.faults new.faults result → IsCalled (disk_state old) (disk_state new) result
  is_called result arms cause = record { tells = refl; arms = arms; calls = one_more; time = elapses; cause = cause }

pub settled_images : (old new : PlainDisk) → new.state ≡ settled old.state → AddsNone (IsImage old.state) (IsImage new.state)
settled_images old new is = subst (λ (s : State). AddsNone (IsImage old.state) (IsImage s)) (sym is) (settled_adds_none old.state)

-- a sync leaves what reads give
pub settled_writes_none : (old new : PlainDisk) → new.state ≡ settled old.state → WritesNone (disk_state old) (disk_state new)
settled_writes_none old new is = record {
  size = ap (λ (s : State). length (seen_of s.base s.writes)) is;
  seen = ap (λ (s : State). seen_of s.base s.writes) is;
  images = settled_images old new is;
}

-- after one more write
module _ (old new : State) (w : PlainWrite) (is : new ≡ with_pending w old) where
  pub pending_images : Follows (Torn w.at (length w.bytes)) (IsImage old) (IsImage new)
  pending_images = subst (λ (s : State). Follows (Torn w.at (length w.bytes)) (IsImage old) (IsImage s)) (sym is) (image_before old.base old.writes w)

  pub pending_seen : seen_of new.base new.writes ≡ laid_at w.at (take w.taken w.bytes) (seen_of old.base old.writes)
  pending_seen = ap (λ (s : State). seen_of s.base s.writes) is ∙ seen_of_push old.base old.writes w

  pub pending_torn : Torn w.at (length w.bytes) (seen_of old.base old.writes) (seen_of new.base new.writes)
  pending_torn =
      subst (Torn w.at (length w.bytes) (seen_of old.base old.writes)) (sym pending_seen) (torn_laid w.at (length w.bytes) (take w.taken w.bytes) (seen_of old.base old.writes) (omega (arith, length-take w.taken w.bytes)))

  pub pending_holds : w.at ≤ length (seen_of old.base old.writes) → w.taken ≡ length w.bytes → Holds (seen_of old.base old.writes) w.at w.bytes (seen_of new.base new.writes)
  pending_holds h all =
      pending_seen
      ∙ laid_is w.at (take w.taken w.bytes) (seen_of old.base old.writes) h
      ∙ ap (λ (l : List ℕ). written_at w.at l (seen_of old.base old.writes)) (take_all w.taken w.bytes (omega (arith, all)))

  pub pending_size : w.at ≤ length (seen_of old.base old.writes) → w.taken ≡ length w.bytes
      → length (seen_of new.base new.writes) ≡ max (length (seen_of old.base old.writes)) (w.at + length w.bytes)
  pending_size h all = ap length (pending_holds h all) ∙ omega (arith, h, length_written w.at w.bytes (seen_of old.base old.writes) h)

-- a call that failed, and one that did its work
pub fails_call : {T E : Type 0} (old new : PlainDisk) (e : E) → new.past ≡ old.past ++ old.state ∷ [] → new.arms ≡ old.arms → new.faults ≡ next_count old.faults → old.faults < 2 ^ 64
    → IsCalled {T = T} {E = E} (disk_state old) (disk_state new) (Err e)
fails_call old new e past arms faults bound =
    is_called old new past (Err e) arms (record { later = omega (arith, faults, bound); kept = tt; failed = rose (nat_lt old.faults (2 ^ 64 - 1)) refl })
  where
    rose : (b : Bool) → nat_lt old.faults (2 ^ 64 - 1) ≡ b → Rose old.faults new.faults
    rose true is = inl (let h : old.faults < 2 ^ 64 - 1 = ltb-true old.faults (2 ^ 64 - 1) is in omega (arith, faults))
    rose false is = inr (let h : 2 ^ 64 - 1 ≤ old.faults = ltb-false old.faults (2 ^ 64 - 1) is in omega (arith, bound))

pub ends_call : {T E : Type 0} (old new : PlainDisk) (x : T) → new.past ≡ old.past ++ old.state ∷ [] → new.arms ≡ old.arms → new.faults ≡ old.faults
    → IsCalled {T = T} {E = E} (disk_state old) (disk_state new) (Ok x)
ends_call old new x past arms faults = is_called old new past (Ok x) arms (record { later = omega (arith, faults); kept = faults; failed = tt })
