-- Laws of writing part by part.
use Rattle.std.proofs.Common.{◌≡◌, ℕ, zero, suc, ◌+◌, ◌<◌, List, [], ◌∷◌, ◌++◌, length, get_or, take, Some, refl, sym, ap, ◌∙◌, append_assoc, arith}
use Rattle.std.specs.List.{flat_map, slice_get}
use Rattle.std.proofs.lemmas.List.{append-nil, take_at, take_more, flat_map_more}
use Rattle.session_codec.specs.Taking.{Begins}

-- nothing was put
pub begins_itself : (old new : List ℕ) → new ≡ old → Begins old new
unfolding Begins
begins_itself old new is = ([], is ∙ sym (append-nil old))

-- a part was put, and no more
pub begins_behind_part : (old part between new : List ℕ) → between ≡ old ++ part → new ≡ between → Begins old new
unfolding Begins
begins_behind_part old part between new is same = (part, same ∙ is)

-- a part was put, and a part of the next
pub begins_further : (old part between new : List ℕ) → between ≡ old ++ part → Begins between new → Begins old new
unfolding Begins
begins_further old part between new is further =
    (part ++ further.0, further.1 ∙ ap (λ (l : List ℕ). l ++ further.0) is ∙ append_assoc old part further.0)

-- two parts were put, and no more
pub begins_behind_two : (old one two first second new : List ℕ) → first ≡ old ++ one → second ≡ first ++ two → new ≡ second → Begins old new
begins_behind_two old one two first second new is more same = begins_further old one first new is (begins_behind_part first two second new more same)

-- two parts were put
pub puts_two : (old one two between new : List ℕ) → between ≡ old ++ one → new ≡ between ++ two → new ≡ old ++ (one ++ two)
puts_two old one two between new is more = more ∙ ap (λ (l : List ℕ). l ++ two) is ∙ append_assoc old one two

-- one more of many parts was put
pub puts_one_more : {X : Type 0} (f : X → List ℕ) (old : List ℕ) (xs : List X) (i : ℕ) (x : X) (between new : List ℕ) → i < length xs → x ≡ get_or xs i x →
    between ≡ old ++ flat_map f (take i xs) → new ≡ between ++ f x → new ≡ old ++ flat_map f (take (i + 1) xs)
puts_one_more f old xs i x between new less at is more =
    more
    ∙ ap (λ l. l ++ f x) is
    ∙ flat_map_more f old (take i xs) x
    ∙ ap (λ l. old ++ flat_map f l) (ap (λ y. take i xs ++ y ∷ []) at ∙ sym (take_more xs i x less))

-- what stands at a place
pub found_at : {X : Type 0} (xs : List X) (i : ℕ) (x : X) → slice_get xs i ≡ Some x → (i < length xs) × (x ≡ get_or xs i x)
found_at [] i x e = absurd cc
found_at (y ∷ xs) zero x e = (omega arith, let same : y ≡ x = cc in sym same)
found_at (y ∷ xs) (suc i) x e = let f = found_at xs i x e in (omega (arith, f.0), f.1)

-- what was put is taken back
pub taken_back : (old new : List ℕ) → Begins old new → take (length old) new ≡ old
unfolding Begins
taken_back old new b = ap (take (length old)) b.1 ∙ take_at old b.0 (length old) refl

-- what a call that writes several parts may cite
pub ruleset parts_begin = (begins_itself, begins_behind_part, begins_behind_two, begins_further)
