-- Which texts are topic names and topic filters, and why others aren't (MQTT 4.7).
use Rattle.std.specs.Prelude.{ℕ, ◌≡◌, ◌≤◌, Bool, true, false, ◌&&◌, ◌||◌, not, ◌==◌, nat_lt, if◌then◌else◌, List, [], ◌∷◌}
use Rattle.std.specs.Prelude.{length, codes, Option, Some, None}
use Rattle.std.specs.List.{list_any}
use Rattle.topic_model.specs.declared.refused.TopicRefused.{TopicRefused}
use Rattle.topic_model.specs.declared.refused.TopicRefused.TheVariants as Topic
use Rattle.topic_model.specs.declared.refused.FilterRefused.{FilterRefused}
use Rattle.topic_model.specs.declared.refused.FilterRefused.TheVariants as Filter
use Rattle.topic_model.specs.Levels.{levels_of}
use Rattle.topic_model.specs.Matching.{is_plus, is_hash, is_last}

-- the most levels of a topic name or a filter, and the most bytes of a filter
abbrev pub most_levels : ℕ
most_levels = 128

abbrev pub most_filter : ℕ
most_filter = 1024

abbrev pub is_empty : List ℕ → Bool
is_empty [] = true
is_empty (b ∷ bytes) = false

abbrev pub has : ℕ → List ℕ → Bool
has byte text = list_any (λ (b : ℕ). b == byte) text

-- `+` or `#` (MQTT 4.7.1)
abbrev pub has_wildcard : List ℕ → Bool
has_wildcard text = list_any (λ (b : ℕ). (b == 0x2B) || (b == 0x23)) text

abbrev pub has_many_levels : List ℕ → Bool
has_many_levels text = nat_lt most_levels (length (levels_of text))

-- why a text is no topic name: the first that holds, in this order
abbrev pub topic_refusal : List ℕ → Option TopicRefused
topic_refusal text =
    if is_empty text then Some Topic.Empty
    else if has 0x00 text then Some Topic.Zero
    else if has_wildcard text then Some Topic.Wild
    else if has_many_levels text then Some Topic.TooManyLevels
    else None

-- a level with `+` that isn't `+` alone (MQTT 4.7.1.3)
abbrev pub is_bad_plus : List ℕ → Bool
is_bad_plus level = has 0x2B level && not (is_plus level)

-- `#` in a level that isn't `#` alone, or in one that isn't the last (MQTT 4.7.1.2)
abbrev pub has_bad_hash : List (List ℕ) → Bool
has_bad_hash [] = false
has_bad_hash (level ∷ levels) = (has 0x23 level && not (is_hash level && is_last levels)) || has_bad_hash levels

-- why a text is no filter: the first that holds, in this order
abbrev pub filter_refusal : List ℕ → Option FilterRefused
filter_refusal text =
    if is_empty text then Some Filter.Empty
    else if has 0x00 text then Some Filter.Zero
    else if nat_lt most_filter (length text) then Some Filter.TooLong
    else if has_many_levels text then Some Filter.TooManyLevels
    else if list_any is_bad_plus (levels_of text) then Some Filter.BadPlus
    else if has_bad_hash (levels_of text) then Some Filter.BadHash
    else None

abbrev pub begins_text : List ℕ → List ℕ → Bool
begins_text [] text = true
begins_text (b ∷ bytes) [] = false
begins_text (b ∷ bytes) (c ∷ text) = (b == c) && begins_text bytes text

-- whether a filter asks for a shared subscription (MQTT 4.8.2)
abbrev pub asks_to_share : List ℕ → Bool
asks_to_share text = begins_text (codes "$share/") text

-- none of the reasons why a text is no topic name
pub record IsTopicText (text : List ℕ) : Type 0 where
  pub not_empty : is_empty text ≡ false
  pub no_zero : has 0x00 text ≡ false
  pub no_wildcard : has_wildcard text ≡ false
  pub few_levels : length (levels_of text) ≤ most_levels

-- none of the reasons why a text is no filter
pub record IsFilterText (text : List ℕ) : Type 0 where
  pub not_empty : is_empty text ≡ false
  pub no_zero : has 0x00 text ≡ false
  pub short : length text ≤ most_filter
  pub few_levels : length (levels_of text) ≤ most_levels
  pub plus_alone : list_any is_bad_plus (levels_of text) ≡ false
  pub hash_alone_and_last : has_bad_hash (levels_of text) ≡ false
