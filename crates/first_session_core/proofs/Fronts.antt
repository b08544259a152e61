-- Fronts of filtered lists.
use Rattle.std.proofs.Common.{◌≡◌, ℕ, Bool, List, length, take, drop, sym, ap, ◌∙◌}
use Rattle.std.specs.Prelude.{filter}
use Rattle.std.proofs.lemmas.List.{take_at, take-append-drop}
use Rattle.std.proofs.lemmas.List.Elements.{filter-append}

-- once enough of a front passed, these are the first that pass
pub take_filter : {X : Type 0} (p : X → Bool) (xs : List X) (k n : ℕ) → length (filter p (take k xs)) ≡ n → take n (filter p xs) ≡ filter p (take k xs)
take_filter {X} p xs k n e = ap (λ (l : List X). take n (filter p l)) (sym (take-append-drop k xs)) ∙ ap (take n) (filter-append p (take k xs) (drop k xs)) ∙ take_at (filter p (take k xs)) (filter p (drop k xs)) n e
