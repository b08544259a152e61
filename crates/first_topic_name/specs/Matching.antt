-- Whether a topic filter matches a topic name, level by level (MQTT 4.7).
use Rattle.std.specs.Prelude.{ℕ, Bool, true, false, ◌&&◌, ◌||◌, not, ◌==◌, List, [], ◌∷◌, refl, ◌≡◌, codes}
use Rattle.std.specs.Str.{bytes_eq}
use Rattle.first_topic_name.specs.Pieces.{levels_of}

-- the multi-level wildcard `#` (MQTT 4.7.1.2)
abbrev pub is_hash : List ℕ → Bool
is_hash level = bytes_eq level (35 ∷ [])

-- the single-level wildcard `+` (MQTT 4.7.1.3)
abbrev pub is_plus : List ℕ → Bool
is_plus level = bytes_eq level (43 ∷ [])

-- no further level follows, as `#` requires (MQTT 4.7.1.2)
abbrev pub is_last : List (List ℕ) → Bool
is_last [] = true
is_last (l ∷ ls) = false

-- a last `#` matches every rest, the empty one included (MQTT 4.7.1.2); `+` matches any one level (MQTT 4.7.1.3); another level its equal (MQTT 4.7.3)
abbrev pub levels_match : List (List ℕ) → List (List ℕ) → Bool
levels_match [] [] = true
levels_match [] (t ∷ ts) = false
levels_match (f ∷ fs) [] = is_hash f && is_last fs
levels_match (f ∷ fs) (t ∷ ts) = (is_hash f && is_last fs) || ((is_plus f || bytes_eq f t) && levels_match fs ts)

-- the first level is a wildcard (MQTT 4.7.2)
abbrev pub begins_wild : List (List ℕ) → Bool
begins_wild [] = false
begins_wild (f ∷ fs) = is_hash f || is_plus f

-- the first level begins with `$` (MQTT 4.7.2)
abbrev pub begins_dollar : List (List ℕ) → Bool
begins_dollar [] = false
begins_dollar ([] ∷ ts) = false
begins_dollar ((c ∷ cs) ∷ ts) = c == 36

-- the filter matches the topic; one that begins with a wildcard matches no topic that begins with `$` (MQTT 4.7.2)
abbrev pub filter_matches : List (List ℕ) → List (List ℕ) → Bool
filter_matches filter topic = not (begins_wild filter && begins_dollar topic) && levels_match filter topic

-- `#` matches the parent level too (MQTT 4.7.1.2)
hash-matches_parent : filter_matches (levels_of (codes "sport/tennis/player1/#")) (levels_of (codes "sport/tennis/player1")) ≡ true
hash-matches_parent = refl

-- `+` matches one level (MQTT 4.7.1.3)
plus-matches_one_level : filter_matches (levels_of (codes "sport/tennis/+")) (levels_of (codes "sport/tennis/player1")) ≡ true
plus-matches_one_level = refl

-- `+` matches no two levels (MQTT 4.7.1.3)
plus-skips_two_levels : filter_matches (levels_of (codes "sport/tennis/+")) (levels_of (codes "sport/tennis/player1/ranking")) ≡ false
plus-skips_two_levels = refl

-- `#` alone matches no topic that begins with `$` (MQTT 4.7.2)
hash-skips_dollar : filter_matches (levels_of (codes "#")) (levels_of (codes "$SYS/x")) ≡ false
hash-skips_dollar = refl

-- a level without a wildcard matches no other level
other_level : filter_matches (levels_of (codes "a/b")) (levels_of (codes "a/c")) ≡ false
other_level = refl

-- an empty level in the middle is a level
plus-matches_empty_level : filter_matches (levels_of (codes "a/+/b")) (levels_of (codes "a//b")) ≡ true
plus-matches_empty_level = refl

-- an empty level at the end is a level
plus-matches_empty_end : filter_matches (levels_of (codes "a/+")) (levels_of (codes "a/")) ≡ true
plus-matches_empty_end = refl
