-- Lists that stand to each other element by element, and a list of which one element changes.
use Rattle.std.specs.Prelude.{◌≡◌, ℕ, zero, suc, ◌+◌, List, [], ◌∷◌, refl}

-- the elements at each place stand to each other so
abbrev pub Pairwise : {A B : Type 0} → (A → B → Type 0) → List A → List B → Type 0
Pairwise R [] [] = Unit {0}
Pairwise R [] (y ∷ ys) = ⊥
Pairwise R (x ∷ xs) [] = ⊥
Pairwise R (x ∷ xs) (y ∷ ys) = R x y × Pairwise R xs ys

-- the element at one place went from the one to the other in this way, and the others stayed
abbrev pub Moved : {A : Type 0} → ℕ → (A → A → Type 0) → List A → List A → Type 0
Moved i R [] new = ⊥
Moved i R (x ∷ xs) [] = ⊥
Moved zero R (x ∷ xs) (y ∷ ys) = R x y × (ys ≡ xs)
Moved (suc i) R (x ∷ xs) (y ∷ ys) = (y ≡ x) × Moved i R xs ys

-- each element has P
abbrev pub EachHas : {A : Type 0} → (A → Type 0) → List A → Type 0
EachHas P [] = Unit {0}
EachHas P (x ∷ xs) = P x × EachHas P xs

-- the element at one place has P, and each other one Q
abbrev pub HasAt : {A : Type 0} → ℕ → (A → Type 0) → (A → Type 0) → List A → Type 0
HasAt i P Q [] = ⊥
HasAt zero P Q (x ∷ xs) = P x × EachHas Q xs
HasAt (suc i) P Q (x ∷ xs) = Q x × HasAt i P Q xs

-- the elements at one place stand to each other by Q, and those at each other place by R
abbrev pub PairwiseBut : {A B : Type 0} → ℕ → (A → B → Type 0) → (A → B → Type 0) → List A → List B → Type 0
PairwiseBut i Q R [] ys = ⊥
PairwiseBut i Q R (x ∷ xs) [] = ⊥
PairwiseBut zero Q R (x ∷ xs) (y ∷ ys) = Q x y × Pairwise R xs ys
PairwiseBut (suc i) Q R (x ∷ xs) (y ∷ ys) = R x y × PairwiseBut i Q R xs ys

-- examples: the second of two moves; a body that moves its neighbour is refused, and so is one that leaves the list shorter
second_moves : Moved 1 (λ old new. new ≡ old + 1) (7 ∷ 8 ∷ []) (7 ∷ 9 ∷ [])
second_moves = (refl, (refl, refl))

neighbour_moves : Moved 1 (λ old new. new ≡ old + 1) (7 ∷ 8 ∷ []) (8 ∷ 8 ∷ []) → ⊥
neighbour_moves moved = let e : 8 ≡ 7 = moved.0 in cc

shorter : Moved 1 (λ old new. new ≡ old + 1) (7 ∷ 8 ∷ []) (7 ∷ []) → ⊥
shorter moved = moved.1

one_each : Pairwise (λ a b. b ≡ a + a) (1 ∷ 2 ∷ []) (2 ∷ 4 ∷ [])
one_each = (refl, (refl, tt))

one_missing : Pairwise (λ a b. b ≡ a + a) (1 ∷ 2 ∷ []) (2 ∷ []) → ⊥
one_missing pairs = pairs.1
