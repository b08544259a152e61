-- A list of which one element changes.
use Rattle.std.proofs.Common.{◌≡◌, ℕ, zero, suc, ◌<◌, Result, Ok, Err, OnOk, OnErr, List, [], ◌∷◌, length, map, get_or, slice_set, refl, sym, ap, subst, ◌∙◌, arith}
use Rattle.shard_disks.specs.Lists.{EachHas, HasAt, Moved, Pairwise}

pub moved_set : {A : Type 0} (R : A → A → Type 0) (xs : List A) (i : ℕ) (x y : A) → i < length xs → x ≡ get_or xs i x → R x y → Moved i R xs (slice_set xs i y)
moved_set R [] i x y h is r = absurd (omega (arith, h))
moved_set R (z ∷ xs) zero x y h is r = (subst (λ w. R w y) is r, refl)
moved_set R (z ∷ xs) (suc i) x y h is r = (refl, moved_set R xs i x y (omega (arith, h)) is r)

pub moved_within : {A : Type 0} (R : A → A → Type 0) (i : ℕ) (xs ys : List A) → Moved i R xs ys → i < length xs
moved_within R i [] ys m = absurd m
moved_within R i (x ∷ xs) [] m = absurd m
moved_within R zero (x ∷ xs) (y ∷ ys) m = omega arith
moved_within R (suc i) (x ∷ xs) (y ∷ ys) m = let h : i < length xs = moved_within R i xs ys m.1 in omega (arith, h)

-- a function that tells no difference
pub moved_same : {A B : Type 0} (f : A → B) (R : A → A → Type 0) → ((x y : A) → R x y → f y ≡ f x) → (i : ℕ) (xs ys : List A) → Moved i R xs ys → map f ys ≡ map f xs
moved_same f R same i [] ys m = absurd m
moved_same f R same i (x ∷ xs) [] m = absurd m
moved_same f R same zero (x ∷ xs) (y ∷ ys) m = ap (λ v. v ∷ map f ys) (same x y m.0) ∙ ap (λ l. f x ∷ map f l) m.1
moved_same f R same (suc i) (x ∷ xs) (y ∷ ys) m = ap (λ v. f v ∷ map f ys) m.0 ∙ ap (λ l. f x ∷ l) (moved_same f R same i xs ys m.1)

-- a function of the elements changes at that place
pub moved_map : {A B : Type 0} (f : A → B) (d : B) (R : A → A → Type 0) (i : ℕ) (xs ys : List A) → Moved i R xs ys → map f ys ≡ slice_set (map f xs) i (get_or (map f ys) i d)
moved_map f d R i [] ys m = absurd m
moved_map f d R i (x ∷ xs) [] m = absurd m
moved_map f d R zero (x ∷ xs) (y ∷ ys) m = ap (λ l. f y ∷ map f l) m.1
moved_map f d R (suc i) (x ∷ xs) (y ∷ ys) m = ap (λ v. f v ∷ map f ys) m.0 ∙ ap (λ l. f x ∷ l) (moved_map f d R i xs ys m.1)

-- and what R says of both elements holds of them there
pub moved_at : {A B : Type 0} (f g : A → B) (d : B) (P : B → B → Type 0) (R : A → A → Type 0) → ((x y : A) → R x y → P (f x) (g y)) → (i : ℕ) (xs ys : List A) → Moved i R xs ys
    → P (get_or (map f xs) i d) (get_or (map g ys) i d)
moved_at f g d P R has i [] ys m = absurd m
moved_at f g d P R has i (x ∷ xs) [] m = absurd m
moved_at f g d P R has zero (x ∷ xs) (y ∷ ys) m = has x y m.0
moved_at f g d P R has (suc i) (x ∷ xs) (y ∷ ys) m = moved_at f g d P R has i xs ys m.1

-- and what follows from it whatever the elements are
pub moved_any : {A C : Type 0} (R : A → A → Type 0) → ((x y : A) → R x y → C) → (i : ℕ) (xs ys : List A) → Moved i R xs ys → C
moved_any R has i [] ys m = absurd m
moved_any R has i (x ∷ xs) [] m = absurd m
moved_any R has zero (x ∷ xs) (y ∷ ys) m = has x y m.0
moved_any R has (suc i) (x ∷ xs) (y ∷ ys) m = moved_any R has i xs ys m.1

pub moved_weaker : {A : Type 0} (R S : A → A → Type 0) → ((x y : A) → R x y → S x y) → (i : ℕ) (xs ys : List A) → Moved i R xs ys → Moved i S xs ys
moved_weaker R S has i [] ys m = absurd m
moved_weaker R S has i (x ∷ xs) [] m = absurd m
moved_weaker R S has zero (x ∷ xs) (y ∷ ys) m = (has x y m.0, m.1)
moved_weaker R S has (suc i) (x ∷ xs) (y ∷ ys) m = (m.0, moved_weaker R S has i xs ys m.1)

-- of what the elements have, the same way
pub moved_mapped : {A B : Type 0} (f : A → B) (R : A → A → Type 0) (S : B → B → Type 0) → ((x y : A) → R x y → S (f x) (f y)) → (i : ℕ) (xs ys : List A) → Moved i R xs ys
    → Moved i S (map f xs) (map f ys)
moved_mapped f R S has i [] ys m = absurd m
moved_mapped f R S has i (x ∷ xs) [] m = absurd m
moved_mapped f R S has zero (x ∷ xs) (y ∷ ys) m = (has x y m.0, ap (map f) m.1)
moved_mapped f R S has (suc i) (x ∷ xs) (y ∷ ys) m = (ap f m.0, moved_mapped f R S has i xs ys m.1)

pub pairs_same : {A : Type 0} (S : A → A → Type 0) → ((x : A) → S x x) → (xs : List A) → Pairwise S xs xs
pairs_same S same [] = tt
pairs_same S same (x ∷ xs) = (same x, pairs_same S same xs)

-- a relation that each element has to itself
pub moved_pairs : {A B : Type 0} (f : A → B) (R : A → A → Type 0) (S : B → B → Type 0) → ((b : B) → S b b) → ((x y : A) → R x y → S (f x) (f y)) → (i : ℕ) (xs ys : List A) → Moved i R xs ys
    → Pairwise S (map f xs) (map f ys)
moved_pairs f R S same has i [] ys m = absurd m
moved_pairs f R S same has i (x ∷ xs) [] m = absurd m
moved_pairs f R S same has zero (x ∷ xs) (y ∷ ys) m = (has x y m.0, subst (λ l. Pairwise S (map f xs) (map f l)) (sym m.1) (pairs_same S same (map f xs)))
moved_pairs f R S same has (suc i) (x ∷ xs) (y ∷ ys) m = (subst (λ v. S (f x) (f v)) (sym m.0) (same (f x)), moved_pairs f R S same has i xs ys m.1)

pub pairs_equal : {A B : Type 0} (f : A → B) (xs ys : List A) → Pairwise (λ x y. f y ≡ f x) xs ys → map f ys ≡ map f xs
pairs_equal f [] [] p = refl
pairs_equal f [] (y ∷ ys) p = absurd p
pairs_equal f (x ∷ xs) [] p = absurd p
pairs_equal f (x ∷ xs) (y ∷ ys) p = ap (λ v. v ∷ map f ys) p.0 ∙ ap (λ l. f x ∷ l) (pairs_equal f xs ys p.1)

pub pairs_weaker : {A B : Type 0} (R S : A → B → Type 0) → ((x : A) (y : B) → R x y → S x y) → (xs : List A) (ys : List B) → Pairwise R xs ys → Pairwise S xs ys
pairs_weaker R S has [] [] p = tt
pairs_weaker R S has [] (y ∷ ys) p = absurd p
pairs_weaker R S has (x ∷ xs) [] p = absurd p
pairs_weaker R S has (x ∷ xs) (y ∷ ys) p = (has x y p.0, pairs_weaker R S has xs ys p.1)

-- ---- what the elements have

pub each_weaker : {A : Type 0} (P Q : A → Type 0) → ((x : A) → P x → Q x) → (xs : List A) → EachHas P xs → EachHas Q xs
each_weaker P Q has [] p = tt
each_weaker P Q has (x ∷ xs) p = (has x p.0, each_weaker P Q has xs p.1)

pub each_both : {A : Type 0} (P Q : A → Type 0) (xs : List A) → EachHas P xs → EachHas Q xs → EachHas (λ x. P x × Q x) xs
each_both P Q [] p q = tt
each_both P Q (x ∷ xs) p q = ((p.0, q.0), each_both P Q xs p.1 q.1)

pub each_mapped : {A B : Type 0} (f : A → B) (P : B → Type 0) (xs : List A) → EachHas (λ x. P (f x)) xs → EachHas P (map f xs)
each_mapped f P [] p = tt
each_mapped f P (x ∷ xs) p = (p.0, each_mapped f P xs p.1)

pub has_mapped : {A B : Type 0} (f : A → B) (P Q : B → Type 0) (i : ℕ) (xs : List A) → HasAt i (λ x. P (f x)) (λ x. Q (f x)) xs → HasAt i P Q (map f xs)
has_mapped f P Q i [] h = absurd h
has_mapped f P Q zero (x ∷ xs) h = (h.0, each_mapped f Q xs h.1)
has_mapped f P Q (suc i) (x ∷ xs) h = (h.0, has_mapped f P Q i xs h.1)

pub has_each : {A : Type 0} (P : A → Type 0) (i : ℕ) (xs : List A) → HasAt i P P xs → EachHas P xs
has_each P i [] h = absurd h
has_each P zero (x ∷ xs) h = h
has_each P (suc i) (x ∷ xs) h = (h.0, has_each P i xs h.1)

pub each_has : {A : Type 0} (P : A → Type 0) (i : ℕ) (xs : List A) → i < length xs → EachHas P xs → HasAt i P P xs
each_has P i [] h p = absurd (omega (arith, h))
each_has P zero (x ∷ xs) h p = p
each_has P (suc i) (x ∷ xs) h p = (p.0, each_has P i xs (omega (arith, h)) p.1)

pub has_both : {A : Type 0} (P Q C : A → Type 0) (i : ℕ) (xs : List A) → HasAt i P Q xs → EachHas C xs → HasAt i (λ x. P x × C x) (λ x. Q x × C x) xs
has_both P Q C i [] h c = absurd h
has_both P Q C zero (x ∷ xs) h c = ((h.0, c.0), each_both Q C xs h.1 c.1)
has_both P Q C (suc i) (x ∷ xs) h c = ((h.0, c.0), has_both P Q C i xs h.1 c.1)

pub has_within : {A : Type 0} (P Q : A → Type 0) (i : ℕ) (xs : List A) → HasAt i P Q xs → i < length xs
has_within P Q i [] h = absurd h
has_within P Q zero (x ∷ xs) h = omega arith
has_within P Q (suc i) (x ∷ xs) h = let k : i < length xs = has_within P Q i xs h.1 in omega (arith, k)

pub has_at : {A B : Type 0} (f : A → B) (d : B) (P : B → Type 0) (Q : A → Type 0) (i : ℕ) (xs : List A) → HasAt i (λ x. P (f x)) Q xs → P (get_or (map f xs) i d)
has_at f d P Q i [] h = absurd h
has_at f d P Q zero (x ∷ xs) h = h.0
has_at f d P Q (suc i) (x ∷ xs) h = has_at f d P Q i xs h.1

-- where one element changes, the others have what they had
pub moved_has : {A : Type 0} (R : A → A → Type 0) (P P' Q : A → Type 0) → ((x y : A) → R x y → P x → P' y) → (i : ℕ) (xs ys : List A) → Moved i R xs ys → HasAt i P Q xs → HasAt i P' Q ys
moved_has R P P' Q has i [] ys m h = absurd m
moved_has R P P' Q has i (x ∷ xs) [] m h = absurd m
moved_has R P P' Q has zero (x ∷ xs) (y ∷ ys) m h = (has x y m.0 h.0, subst (EachHas Q) (sym m.1) h.1)
moved_has R P P' Q has (suc i) (x ∷ xs) (y ∷ ys) m h = (subst Q (sym m.0) h.0, moved_has R P P' Q has i xs ys m.1 h.1)

pub moved_each : {A : Type 0} (R : A → A → Type 0) (P : A → Type 0) → ((x y : A) → R x y → P x → P y) → (i : ℕ) (xs ys : List A) → Moved i R xs ys → EachHas P xs → EachHas P ys
moved_each R P has i xs ys m p = has_each P i ys (moved_has R P P P has i xs ys m (each_has P i xs (moved_within R i xs ys m) p))

-- what was read at a place
pub read_at : {A B : Type 0} (f : A → B) (d : B) (xs : List A) (i : ℕ) (x : A) → i < length xs → x ≡ get_or xs i x → get_or (map f xs) i d ≡ f x
read_at f d [] i x h is = absurd (omega (arith, h))
read_at f d (y ∷ xs) zero x h is = ap f (sym is)
read_at f d (y ∷ xs) (suc i) x h is = read_at f d xs i x (omega (arith, h)) is

pub moved_length : {A : Type 0} (R : A → A → Type 0) (i : ℕ) (xs ys : List A) → Moved i R xs ys → length ys ≡ length xs
moved_length R i [] ys m = absurd m
moved_length R i (x ∷ xs) [] m = absurd m
moved_length R zero (x ∷ xs) (y ∷ ys) m = ap (λ (l : List _). suc (length l)) m.1
moved_length R (suc i) (x ∷ xs) (y ∷ ys) m = ap suc (moved_length R i xs ys m.1)

-- what holds under a premise that each element meets
pub moved_given : {A : Type 0} (P : A → Type 0) (R : A → A → Type 0) (i : ℕ) (xs ys : List A) → EachHas P xs → Moved i (λ x y. P x → R x y) xs ys → Moved i R xs ys
moved_given P R i [] ys p m = absurd m
moved_given P R i (x ∷ xs) [] p m = absurd m
moved_given P R zero (x ∷ xs) (y ∷ ys) p m = (m.0 p.0, m.1)
moved_given P R (suc i) (x ∷ xs) (y ∷ ys) p m = (m.0, moved_given P R i xs ys p.1 m.1)

-- what holds under one answer
pub moved_ok : {A T E : Type 0} (result : Result T E) (R : A → A → Type 0) (i : ℕ) (xs ys : List A) → Moved i (λ x y. OnOk result (R x y)) xs ys → OnOk result (Moved i R xs ys)
moved_ok (Ok v) R i xs ys m = m
moved_ok (Err e) R i xs ys m = tt

pub moved_err : {A T E : Type 0} (result : Result T E) (R : A → A → Type 0) (i : ℕ) (xs ys : List A) → Moved i (λ x y. OnErr result (R x y)) xs ys → OnErr result (Moved i R xs ys)
moved_err (Ok v) R i xs ys m = tt
moved_err (Err e) R i xs ys m = m

pub pairs_mapped : {A B : Type 0} (f : A → B) (S : B → B → Type 0) (xs ys : List A) → Pairwise (λ x y. S (f x) (f y)) xs ys → Pairwise S (map f xs) (map f ys)
pairs_mapped f S [] [] p = tt
pairs_mapped f S [] (y ∷ ys) p = absurd p
pairs_mapped f S (x ∷ xs) [] p = absurd p
pairs_mapped f S (x ∷ xs) (y ∷ ys) p = (p.0, pairs_mapped f S xs ys p.1)

pub each_read : {A : Type 0} (P : A → Type 0) (xs : List A) (i : ℕ) (x : A) → i < length xs → x ≡ get_or xs i x → EachHas P xs → P x
each_read P [] i x h is p = absurd (omega (arith, h))
each_read P (y ∷ xs) zero x h is p = subst P (sym is) p.0
each_read P (y ∷ xs) (suc i) x h is p = each_read P xs i x (omega (arith, h)) is p.1

pub has_weaker : {A : Type 0} (P P' Q Q' : A → Type 0) → ((x : A) → P x → P' x) → ((x : A) → Q x → Q' x) → (i : ℕ) (xs : List A) → HasAt i P Q xs → HasAt i P' Q' xs
has_weaker P P' Q Q' p q i [] h = absurd h
has_weaker P P' Q Q' p q zero (x ∷ xs) h = (p x h.0, each_weaker Q Q' q xs h.1)
has_weaker P P' Q Q' p q (suc i) (x ∷ xs) h = (q x h.0, has_weaker P P' Q Q' p q i xs h.1)

-- whichever element moves, each still has what it had
pub moved_stands : {A : Type 0} (R : A → A → Type 0) (P Q : A → Type 0) → ((x y : A) → R x y → P x → P y) → ((x y : A) → R x y → Q x → Q y) → (j i : ℕ) (xs ys : List A)
    → Moved i R xs ys → HasAt j P Q xs → HasAt j P Q ys
moved_stands R P Q p q j i [] ys m h = absurd m
moved_stands R P Q p q j i (x ∷ xs) [] m h = absurd m
moved_stands R P Q p q zero zero (x ∷ xs) (y ∷ ys) m h = (p x y m.0 h.0, subst (EachHas Q) (sym m.1) h.1)
moved_stands R P Q p q (suc j) zero (x ∷ xs) (y ∷ ys) m h = (q x y m.0 h.0, subst (HasAt j P Q) (sym m.1) h.1)
moved_stands R P Q p q zero (suc i) (x ∷ xs) (y ∷ ys) m h = (subst P (sym m.0) h.0, moved_each R Q q i xs ys m.1 h.1)
moved_stands R P Q p q (suc j) (suc i) (x ∷ xs) (y ∷ ys) m h = (subst Q (sym m.0) h.0, moved_stands R P Q p q j i xs ys m.1 h.1)
