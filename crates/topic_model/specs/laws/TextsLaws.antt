-- What is known of a text that is a topic name or a filter.
use Rattle.std.proofs.Common.{◌≡◌, ℕ, ◌≤◌, Bool, true, false, List, length, Option, Some, None, refl, arith}
use Rattle.std.specs.Prelude.{nat_lt, if◌then◌else◌}
use Rattle.std.specs.List.{list_any}
use Rattle.std.proofs.lemmas.Bool.Decides.{nat_tests}
use Rattle.topic_model.specs.declared.refused.TopicRefused.TheVariants as Topic
use Rattle.topic_model.specs.declared.refused.FilterRefused.TheVariants as Filter
use Rattle.topic_model.specs.Levels.{levels_of}
use Rattle.topic_model.specs.Texts.{most_levels, most_filter, is_empty, has, has_wildcard, has_many_levels, is_bad_plus}
use Rattle.topic_model.specs.Texts.{has_bad_hash, topic_refusal, filter_refusal}
use Rattle.topic_model.specs.Texts.{IsTopicText, IsFilterText}

-- where the answer is none, neither the first reason holds nor a later one
passed : {T : Type 0} (reason : Bool) (refused : T) (others : Option T) →
    (if reason then Some refused else others) ≡ None →
    (reason ≡ false) × (others ≡ None)
passed true refused others none = cc none
passed false refused others none = (refl, none)

at_most : (n most : ℕ) → nat_lt most n ≡ false → n ≤ most
at_most n most fewer = grind (arith, nat_tests)

pub topic_text : (text : List ℕ) → topic_refusal text ≡ None → IsTopicText text
topic_text text none =
    let full = passed (is_empty text) Topic.Empty _ none in
    let clean = passed (has 0x00 text) Topic.Zero _ full.1 in
    let tame = passed (has_wildcard text) Topic.Wild _ clean.1 in
    let few = passed (has_many_levels text) Topic.TooManyLevels None tame.1 in
    record {
      not_empty = full.0;
      no_zero = clean.0;
      no_wildcard = tame.0;
      few_levels = at_most (length (levels_of text)) most_levels few.0;
    }

pub filter_text : (text : List ℕ) → filter_refusal text ≡ None → IsFilterText text
filter_text text none =
    let full = passed (is_empty text) Filter.Empty _ none in
    let clean = passed (has 0x00 text) Filter.Zero _ full.1 in
    let short = passed (nat_lt most_filter (length text)) Filter.TooLong _ clean.1 in
    let few = passed (has_many_levels text) Filter.TooManyLevels _ short.1 in
    let plus = passed (list_any is_bad_plus (levels_of text)) Filter.BadPlus _ few.1 in
    let hash = passed (has_bad_hash (levels_of text)) Filter.BadHash None plus.1 in
    record {
      not_empty = full.0;
      no_zero = clean.0;
      short = at_most (length text) most_filter short.0;
      few_levels = at_most (length (levels_of text)) most_levels few.0;
      plus_alone = plus.0;
      hash_alone_and_last = hash.0;
    }
