-- Subscriptions that are changed one after another.
use Rattle.std.proofs.Common.{◌≡◌, ℕ, ◌+◌, ◌<◌, ◌++◌, List, map, take, drop, length, get_or, set, ap, ◌∙◌}
use Rattle.std.proofs.lemmas.List.Edits.{map_over_more}

-- a step that writes what a function gives of the item at its place
pub map_step : {X : Type 0} (f : X → X) (xs ys : List X) (i : ℕ) (x y : X) → i < length xs → ys ≡ map f (take i xs) ++ drop i xs → x ≡ get_or ys i x →
    y ≡ f (get_or ys i x) → set ys i y ≡ map f (take (i + 1) xs) ++ drop (i + 1) xs
map_step f xs ys i x y within so_far item made =
    ap (set ys i) made ∙ map_over_more f xs ys i (get_or ys i x) within so_far (ap (get_or ys i) item)
