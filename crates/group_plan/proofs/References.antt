-- Of lists of references to operations.
use Rattle.std.proofs.Common.{◌≡◌, ℕ, ◌+◌, ◌<◌, List, ◌∷◌, length, map, drop, get_or, sym, ap, ◌∙◌}
use Rattle.std.proofs.lemmas.List.{drop-map, drop_more, get_or-map, length-map}
use Rattle.std.specs.Borrow.{Bor}
use Rattle.record_codec.specs.declared.group.Op.{Op}

-- what a reference points to
abbrev pub now_of : Bor Op → Op
now_of reference = reference.now

abbrev pub told : List (Bor Op) → List Op
told references = map now_of references

-- the one at a place, with those behind it
pub rest_at : (references : List (Bor Op)) (i : ℕ) (reference : Bor Op) → i < length references → reference ≡ get_or references i reference →
    drop i (told references) ≡ reference.now ∷ drop (i + 1) (told references)
rest_at references i reference less is =
    drop-map now_of i references
    ∙ ap (map now_of) (drop_more references i reference less ∙ ap (λ (x : Bor Op). x ∷ drop (i + 1) references) (sym is))
    ∙ ap (λ (l : List Op). reference.now ∷ l) (sym (drop-map now_of (i + 1) references))

pub at_place : (references : List (Bor Op)) (i : ℕ) (reference : Bor Op) → i < length references → reference ≡ get_or references i reference →
    reference.now ≡ get_or (told references) i reference.now
at_place references i reference less is = ap now_of is ∙ sym (get_or-map now_of references i reference reference.now less)

pub told_long : (references : List (Bor Op)) → length (told references) ≡ length references
told_long references = length-map references now_of
