-- Laws of the images: what reads give is one of them, each that a script can choose is one, and a write tears them.
use Rattle.std.proofs.Common.{◌≡◌, inl, inr, ℕ, ◌+◌, ◌-◌, ◌/◌, ◌==◌, ◌≤◌, ◌<◌, Bool, true, false, nat_le, if◌then◌else◌, List, [], ◌∷◌, ◌++◌, length, take, drop, replicate, refl, sym, ap, ◌∙◌, arith, length-append, length-take}
use Rattle.std.proofs.lemmas.Bool.{leb-true, leb-false}
use Rattle.std.proofs.lemmas.List.{length-replicate, take-append-le, drop_all, append-nil}
use Rattle.outside.specs.DiskModel.{Torn, written_at}
use Rattle.outside.specs.Torn.{length_written, torn_same, torn_written}
use Rattle.disk_memory.specs.PlainDisk.{PlainWrite, State, laid_at, grown, seen_after, seen_of}
use Rattle.disk_memory.specs.declared.images.TheConstants.{FILL_A5, FILL_01}
use Rattle.disk_memory.specs.Images.{IsImageOf, IsImage, HadImage, LeftSince, whole, half, filled, with_write, image_after}

pub torn_grown : (at count : ℕ) (old new : List ℕ) → at ≤ length new → Torn at count old new → Torn at count old (grown (at + count) new)
torn_grown at count old new h torn =
    let size : length (grown (at + count) new) ≡ length new + (at + count - length new) =
    length-append new (replicate (at + count - length new) 0) ∙ ap (λ n. length new + n) (length-replicate {A = ℕ} (at + count - length new) 0) in
    record {
      before = take-append-le at new (replicate (at + count - length new) 0) h ∙ torn.before;
      after = after_grown (nat_le (length new) (at + count)) refl;
      no_shorter = omega (arith, size, torn.no_shorter);
      no_longer = omega (arith, size, torn.no_longer);
    }
  where
    after_grown : (b : Bool) → nat_le (length new) (at + count) ≡ b → drop (at + count) (grown (at + count) new) ≡ drop (at + count) old
    after_grown true e =
        let fits : length new ≤ at + count = leb-true (length new) (at + count) e in
        drop_all (at + count) (grown (at + count) new) (omega (arith, fits, length-append new (replicate (at + count - length new) 0), length-replicate {A = ℕ} (at + count - length new) 0))
        ∙ sym (drop_all (at + count) new fits)
        ∙ torn.after
    after_grown false e =
        let past : at + count < length new = leb-false (length new) (at + count) e in
        let none : at + count - length new ≡ 0 = omega (arith, past) in
        ap (λ n. drop (at + count) (new ++ replicate n 0)) none ∙ ap (drop (at + count)) (append-nil new) ∙ torn.after

-- each way to write is torn
module _ (at count : ℕ) (piece old : List ℕ) (short : length piece ≤ count) where
  laid : (b : Bool) → nat_le at (length old) ≡ b → Torn at count old (if b then written_at at piece old else old)
  laid true e = torn_written at count piece old short (leb-true at (length old) e)
  laid false e = torn_same at count old

  pub torn_laid : Torn at count old (laid_at at piece old)
  torn_laid = laid (nat_le at (length old)) refl

  grows : (b : Bool) → nat_le at (length old) ≡ b → Torn at count old (if b then grown (at + count) (written_at at piece old) else old)
  grows true e =
      let h : at ≤ length old = leb-true at (length old) e in
      torn_grown at count old (written_at at piece old) (omega (arith, h, length_written at piece old h)) (torn_written at count piece old short h)
  grows false e = torn_same at count old

  pub torn_grows : Torn at count old (if nat_le at (length old) then grown (at + count) (written_at at piece old) else old)
  torn_grows = grows (nat_le at (length old)) refl

pub torn_filled : (byte : ℕ) (w : PlainWrite) (old : List ℕ) → Torn w.at (length w.bytes) old (filled byte w old)
torn_filled byte w old = torn_laid w.at (length w.bytes) (replicate (length w.bytes) byte) old (omega (arith, length-replicate (length w.bytes) byte))

pub torn_with_write : (n : ℕ) (w : PlainWrite) (old : List ℕ) → Torn w.at (length w.bytes) old (with_write n w old)
torn_with_write n w old = by_number (n == 0) (n == 1) (n == 2) (n == 3)
  where
    by_number : (b₀ b₁ b₂ b₃ : Bool) → Torn w.at (length w.bytes) old
        (if b₀ then old else if b₁ then whole w old else if b₂ then half w old else if b₃ then filled FILL_A5 w old else filled FILL_01 w old)
    by_number true b₁ b₂ b₃ = torn_same w.at (length w.bytes) old
    by_number false true b₂ b₃ = torn_laid w.at (length w.bytes) w.bytes old (omega arith)
    by_number false false true b₃ =
        torn_grows w.at (length w.bytes) (take (length w.bytes / 2) w.bytes) old (omega (arith, length-take (length w.bytes / 2) w.bytes))
    by_number false false false true = torn_filled FILL_A5 w old
    by_number false false false false = torn_filled FILL_01 w old

-- what reads give is an image
pub seen_is_image : (base : List ℕ) (ws : List PlainWrite) → IsImageOf base ws (seen_of base ws)
seen_is_image base [] = refl
seen_is_image base (w ∷ ws) = (
  seen_after base w,
  torn_laid w.at (length w.bytes) (take w.taken w.bytes) base (omega (arith, length-take w.taken w.bytes)),
  seen_is_image (seen_after base w) ws,
)

-- each image that a script can choose is an image
pub chosen_is_image : (n : ℕ) (base : List ℕ) (ws : List PlainWrite) → IsImageOf base ws (image_after n base ws)
chosen_is_image n base [] = refl
chosen_is_image n base (w ∷ ws) = (with_write n w base, torn_with_write n w base, chosen_is_image n (with_write n w base) ws)

-- since the last moment there is what there is now
pub only_now_left : (s : State) (past : List State) (image : List ℕ) → LeftSince s past (length past) image → IsImage s image
only_now_left s past image (inl now) = now
only_now_left s past image (inr had) = absurd (none_left past had)
  where
    none_left : (past : List State) → HadImage (drop (length past) past) image → ⊥
    none_left [] had = had
    none_left (p ∷ past) had = none_left past had
