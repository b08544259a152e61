-- Texts and their levels: when they are equal, how many they are, and that no text is refused for want of memory.
use Rattle.std.proofs.Common.{◌≡◌, ◌↔◌, ℕ, ◌+◌, Bool, true, false, leb, ltb, List, length, Option, Some, sym, ap, ◌∙◌, add-one}
use Rattle.std.specs.Prelude.{count_by, IsTrue, if◌then◌else◌}
use Rattle.std.specs.List.{list_any}
use Rattle.std.specs.Str.{bytes_eq}
use Rattle.std.proofs.Math.Dec.{leb-suc-suc}
use Rattle.std.proofs.lemmas.Slice.Eq.{bytes_eq-Decides}
use Rattle.topic_model.specs.declared.refused.FilterRefused.{FilterRefused}
use Rattle.topic_model.specs.declared.refused.FilterRefused.TheVariants.{Empty, Zero, TooLong, TooManyLevels, BadPlus, BadHash, Memory}
use Rattle.topic_model.specs.Levels.{levels_of, text_of_levels}
use Rattle.topic_model.specs.laws.LevelsLaws.{length-pieces, text_of-levels_of}
use Rattle.topic_model.specs.Levels.{parts}
use Rattle.topic_model.specs.Texts.{most_filter, has_many_levels, filter_refusal, is_empty, has, is_bad_plus, has_bad_hash}

-- texts are equal as the texts of their levels are
pub same_texts : (xs ys : List ℕ) (same : Bool) → same ≡ bytes_eq xs ys → same ≡ bytes_eq (text_of_levels (levels_of xs)) (text_of_levels (levels_of ys))
same_texts xs ys same told = rw (text_of-levels_of xs, text_of-levels_of ys) told

-- and as their levels are
pub same_levels : (xs ys : List ℕ) (same : Bool) → same ≡ bytes_eq xs ys → IsTrue same ↔ (levels_of xs ≡ levels_of ys)
same_levels xs ys same told =
    let decides = bytes_eq-Decides xs ys in
    (λ equal. ap levels_of (decides.0 (sym told ∙ equal)), λ equal. told ∙ decides.1 (sym (text_of-levels_of xs) ∙ ap text_of_levels equal ∙ text_of-levels_of ys))

one_more : (n : ℕ) → leb 128 n ≡ ltb 128 (n + 1)
one_more n = rw add-one (sym (leb-suc-suc 128 n))

-- a text has more than 128 levels where it has 128 separators
pub many_by_separators : (text : List ℕ) → leb 128 (count_by (parts 0x2F) text) ≡ has_many_levels text
many_by_separators text = rw (length-pieces 0x2F text) (one_more (count_by (parts 0x2F) text))

neither : (b : Bool) (e : FilterRefused) (rest : Option FilterRefused) → (e ≡ Memory → ⊥) → (rest ≡ Some Memory → ⊥) →
    (if b then Some e else rest) ≡ Some Memory → ⊥
neither true e rest here others same = here (cc)
neither false e rest here others same = others same

-- no text is refused for want of memory
pub filter_never_memory : (text : List ℕ) → filter_refusal text ≡ Some Memory → ⊥
filter_never_memory text =
    neither (is_empty text) Empty _ (λ same. cc)
    (neither (has 0x00 text) Zero _ (λ same. cc)
    (neither (ltb most_filter (length text)) TooLong _ (λ same. cc)
    (neither (has_many_levels text) TooManyLevels _ (λ same. cc)
    (neither (list_any is_bad_plus (levels_of text)) BadPlus _ (λ same. cc)
    (neither (has_bad_hash (levels_of text)) BadHash _ (λ same. cc)
    (λ same. cc))))))
