-- The slot of the newest generation.
use Rattle.std.proofs.Common.{◌≡◌, ℕ, zero, suc, ◌-◌, List, [], ◌∷◌, length, slice_get, Some, refl, sym, ap, subst, arith}
use Rattle.topic_name.specs.declared.descriptor.Descriptor.{Descriptor}
use Rattle.shard_fold.specs.FoldLaws.{newest_slot}

last_at : (cuts : List Descriptor) (n : ℕ) (cut : Descriptor) → length cuts ≡ suc n → slice_get cuts n ≡ Some cut → cut.slot ≡ newest_slot cuts
last_at [] n cut long found = absurd (omega arith)
last_at (c ∷ []) zero cut long found = let is : c ≡ cut = cc in ap (λ (d : Descriptor). d.slot) (sym is)
last_at (c ∷ []) (suc n) cut long found = absurd (omega arith)
last_at (c ∷ next ∷ cuts) zero cut long found = absurd (omega arith)
last_at (c ∷ next ∷ cuts) (suc n) cut long found = last_at (next ∷ cuts) n cut (omega arith) found

pub last_slot : (cuts : List Descriptor) (cut : Descriptor) → slice_get cuts (length cuts - 1) ≡ Some cut → cut.slot ≡ newest_slot cuts
last_slot [] cut found = absurd cc
last_slot (c ∷ cuts) cut found =
    let last : length (c ∷ cuts) - 1 ≡ length cuts = omega arith in
    last_at (c ∷ cuts) (length cuts) cut refl (subst (λ n. slice_get (c ∷ cuts) n ≡ Some cut) last found)
