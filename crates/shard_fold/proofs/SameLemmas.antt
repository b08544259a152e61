-- Of identifiers that are compared with those that an index awaits.
use Rattle.std.proofs.Common.{◌≡◌, ◌≢◌, ℕ, suc, ◌+◌, ◌<◌, ◌&&◌, Bool, true, false, not, List, [], ◌∷◌, length, drop, get_or, slice_get, Some, None, refl, sym, ap, ◌∙◌, add-one, drop-cons, arith}
use Rattle.std.proofs.lemmas.Bool.{not-true}
use Rattle.std.proofs.lemmas.Option.{none-some, same_Some, slice_get-get_or}
use Rattle.shard_model.specs.ShardList.{Awaited}
use Rattle.shard_model.specs.Storing.{same_triple}
use Rattle.std.proofs.Math.Bool.{and-false}
use Rattle.shard_fold.specs.Fold.{are_same}

pub other_lengths : (awaited others : List Awaited) → length awaited ≢ length others → are_same awaited others ≡ false
other_lengths [] [] ne = absurd (ne refl)
other_lengths [] (b ∷ others) ne = refl
other_lengths (a ∷ awaited) [] ne = refl
other_lengths (a ∷ awaited) (b ∷ others) ne =
    ap (λ t. same_triple a b && t) (other_lengths awaited others (λ e. ne (omega arith))) ∙ and-false (same_triple a b)

-- the identifiers at a place, and those behind it
one_compared : (awaited others : List Awaited) (k : ℕ) (a b : Awaited) → k < length awaited → k < length others →
    a ≡ get_or awaited k a → b ≡ get_or others k b →
    are_same (drop k awaited) (drop k others) ≡ (same_triple a b && are_same (drop (k + 1) awaited) (drop (k + 1) others))
one_compared awaited others k a b less in_others at at_others =
    ap (λ l. are_same l (drop k others)) (rest_of awaited k a less at) ∙ ap (are_same (a ∷ drop (k + 1) awaited)) (rest_of others k b in_others at_others)
  where
    rest_of : (l : List Awaited) (k : ℕ) (x : Awaited) → k < length l → x ≡ get_or l k x → drop k l ≡ x ∷ drop (k + 1) l
    rest_of l k x less at = drop-cons l k x less ∙ ap (λ y. y ∷ drop (suc k) l) (sym at) ∙ ap (λ n. x ∷ drop n l) (sym (add-one k))

-- what stands at a place
found_at : (others : List Awaited) (k : ℕ) (b : Awaited) → k < length others → Some b ≡ slice_get others k → b ≡ get_or others k b
found_at others k b less found = same_Some b (get_or others k b) (found ∙ slice_get-get_or others k b less)

pub none_at : (others : List Awaited) (k : ℕ) (a : Awaited) → k < length others → None ≡ slice_get others k → ⊥
none_at others k a less found = none-some (get_or others k a) (found ∙ slice_get-get_or others k a less)

is_equal : (t : Bool) → false ≡ not t → t ≡ true
is_equal true e = refl
is_equal false e = cc

-- two that stand at a place differ, or are the same one
pub one_differs : (awaited others : List Awaited) (k : ℕ) (a b : Awaited) → k < length awaited → k < length others →
    a ≡ get_or awaited k a → Some b ≡ slice_get others k → true ≡ not (same_triple a b) →
    are_same awaited others ≡ are_same (drop k awaited) (drop k others) → false ≡ are_same awaited others
one_differs awaited others k a b less in_others at found differs so_far =
    sym (so_far ∙ one_compared awaited others k a b less in_others at (found_at others k b in_others found)
    ∙ ap (λ t. t && are_same (drop (k + 1) awaited) (drop (k + 1) others)) (not-true (same_triple a b) (sym differs)))

pub one_agrees : (awaited others : List Awaited) (k : ℕ) (a b : Awaited) → k < length awaited → k < length others →
    a ≡ get_or awaited k a → Some b ≡ slice_get others k → false ≡ not (same_triple a b) →
    are_same awaited others ≡ are_same (drop k awaited) (drop k others) → are_same awaited others ≡ are_same (drop (k + 1) awaited) (drop (k + 1) others)
one_agrees awaited others k a b less in_others at found agrees so_far =
    so_far ∙ one_compared awaited others k a b less in_others at (found_at others k b in_others found)
    ∙ ap (λ t. t && are_same (drop (k + 1) awaited) (drop (k + 1) others)) (is_equal (same_triple a b) agrees)
