-- Lists of slots, and what each has.
use Rattle.std.proofs.Common.{◌≡◌, ℕ, zero, suc, ◌<◌, true, false, Result, Ok, Err, is_err, List, [], ◌∷◌, length, map, get_or, slice_set, refl, ap, arith}
use Rattle.shard_disks.specs.Lists.{EachHas, HasAt}

pub each_at : {A : Type 0} (P : A → Type 0) (xs : List A) (i : ℕ) (d : A) → EachHas P xs → i < length xs → P (get_or xs i d)
each_at P [] i d has within = absurd (omega arith)
each_at P (x ∷ xs) zero d has within = has.0
each_at P (x ∷ xs) (suc i) d has within = each_at P xs i d has.1 (omega arith)

pub each_set : {A : Type 0} (P : A → Type 0) (xs : List A) (i : ℕ) (y : A) → EachHas P xs → P y → EachHas P (slice_set xs i y)
each_set P [] i y has one = has
each_set P (x ∷ xs) zero y has one = (one, has.1)
each_set P (x ∷ xs) (suc i) y has one = (has.0, each_set P xs i y has.1 one)

pub has_at : {A : Type 0} (i : ℕ) (P Q : A → Type 0) (xs : List A) (d : A) → HasAt i P Q xs → P (get_or xs i d)
has_at i P Q [] d has = absurd has
has_at zero P Q (x ∷ xs) d has = has.0
has_at (suc i) P Q (x ∷ xs) d has = has_at i P Q xs d has.1

pub each_same : {A B : Type 0} (P : A → Type 0) (f g : A → B) → ((x : A) → P x → f x ≡ g x) → (xs : List A) → EachHas P xs → map f xs ≡ map g xs
each_same P f g same [] has = refl
each_same P f g same (x ∷ xs) has = (λ i. same x has.0 i ∷ each_same P f g same xs has.1 i)

pub set_twice : {A : Type 0} (xs : List A) (i : ℕ) (x y : A) → slice_set (slice_set xs i x) i y ≡ slice_set xs i y
set_twice [] i x y = refl
set_twice (z ∷ xs) zero x y = refl
set_twice (z ∷ xs) (suc i) x y = ap (λ l. z ∷ l) (set_twice xs i x y)

-- ---- answers

pub err_of : {T E : Type 0} (r : Result T E) → is_err r ≡ true → (e : E) × (r ≡ Err e)
err_of (Ok x) failed = absurd cc
err_of (Err e) failed = (e, refl)

pub ok_of : {E : Type 0} (r : Result Unit E) → is_err r ≡ false → r ≡ Ok tt
ok_of (Ok x) done = refl
ok_of (Err e) done = absurd cc
