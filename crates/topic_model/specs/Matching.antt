-- Whether a topic filter matches a topic name, level by level (MQTT 4.7).
use Rattle.std.specs.Prelude.{ℕ, Bool, true, false, ◌&&◌, ◌||◌, not, ◌==◌, List, [], ◌∷◌}
use Rattle.std.specs.Str.{bytes_eq}

-- the multi-level wildcard (MQTT 4.7.1.2), and the single-level one (MQTT 4.7.1.3)
abbrev pub is_hash : List ℕ → Bool
is_hash level = bytes_eq level (0x23 ∷ [])

abbrev pub is_plus : List ℕ → Bool
is_plus level = bytes_eq level (0x2B ∷ [])

abbrev pub is_last : List (List ℕ) → Bool
is_last [] = true
is_last (level ∷ levels) = false

-- A last `#` matches every rest, the empty one included (MQTT 4.7.1.2); `+` matches any one level (MQTT 4.7.1.3);
-- another level its equal (MQTT 4.7.3).
abbrev pub levels_match : List (List ℕ) → List (List ℕ) → Bool
levels_match [] [] = true
levels_match [] (t ∷ ts) = false
levels_match (f ∷ fs) [] = is_hash f && is_last fs
levels_match (f ∷ fs) (t ∷ ts) = (is_hash f && is_last fs) || ((is_plus f || bytes_eq f t) && levels_match fs ts)

abbrev pub begins_wild : List (List ℕ) → Bool
begins_wild [] = false
begins_wild (f ∷ fs) = is_hash f || is_plus f

abbrev pub begins_with : ℕ → List ℕ → Bool
begins_with b [] = false
begins_with b (c ∷ cs) = c == b

abbrev pub begins_dollar : List (List ℕ) → Bool
begins_dollar [] = false
begins_dollar (t ∷ ts) = begins_with 0x24 t

-- a filter that begins with a wildcard matches no topic that begins with `$` (MQTT 4.7.2)
abbrev pub matches : List (List ℕ) → List (List ℕ) → Bool
matches filter topic = not (begins_wild filter && begins_dollar topic) && levels_match filter topic
