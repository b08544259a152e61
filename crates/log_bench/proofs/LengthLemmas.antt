-- The lengths of records that are all as long.
use Rattle.std.proofs.Common.{◌≡◌, ℕ, zero, suc, ◌<◌, List, [], ◌∷◌, length, map, replicate, slice_index_or, get_or, refl, sym, ap, ◌∙◌}
use Rattle.std.proofs.Math.ListN.{get_or-map}
use Rattle.std.proofs.lemmas.List.{get_or-replicate}

pub map_length-replicate : (n : ℕ) (payload : List ℕ) → map length (replicate n payload) ≡ replicate n (length payload)
map_length-replicate zero payload = refl
map_length-replicate (suc n) payload = ap (λ (lengths : List ℕ). length payload ∷ lengths) (map_length-replicate n payload)

-- one of them
pub length-one_of : (payloads : List (List ℕ)) (n size k : ℕ) → map length payloads ≡ replicate n size → k < n → length (slice_index_or payloads k []) ≡ size
length-one_of payloads n size k alike lt =
    sym (get_or-map length payloads k []) ∙ ap (λ (lengths : List ℕ). get_or lengths k 0) alike ∙ get_or-replicate n k size 0 lt
