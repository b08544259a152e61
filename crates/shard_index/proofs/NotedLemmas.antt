-- That the list of what is awaited and the notes by publishers agree after each change.
use Rattle.std.proofs.Common.{◌≡◌, ℕ, Bool, true, ◌&&◌, ◌==◌, not, List, filter, bytes_eq, sym, ap, ◌∙◌}
use Rattle.std.specs.List.{list_any}
use Rattle.std.specs.Cmp.{nat_eq_equiv}
use Rattle.std.specs.Cmp.Lexicographic.{nat_list_eq_equiv}
use Rattle.std.proofs.lemmas.Map.Views.{any-filter_same}
use Rattle.shard_model.specs.ShardList.{Awaited}
use Rattle.shard_model.specs.Storing.{is_awaited_as, is_of}
use Rattle.shard_index.specs.Triples.{same_triple_equiv, same_triple_is}
use Rattle.shard_index.specs.Identifiers.{AreNoted, Identifier, Notes, without_all, without_noted}

abbrev triple_with : List ℕ → Identifier → Awaited
triple_with publisher n = record { publisher = publisher; incarnation = n.incarnation; id = n.id }

abbrev other_than : Awaited → Awaited → Bool
other_than a b = not (is_awaited_as a.publisher a.incarnation a.id b)

pub noted_released : (a : Awaited) (list later : List Awaited) (old new : List (List ℕ × List Identifier)) →
    AreNoted list old → Notes (without_noted a) old new → later ≡ filter (other_than a) list → AreNoted later new
noted_released a list later old new noted notes is = record {
  each = λ p n.
      let found = λ (k : Awaited) (same : is_awaited_as p n.incarnation n.id k ≡ true).
      ap (other_than a) (sym (same_triple_is (triple_with p n) k same)) ∙ ap not (same_triple_equiv.symm a (triple_with p n)) in
      notes.each p n
      ∙ ap (λ b. not (is_awaited_as p n.incarnation n.id a) && b) (noted.each p n)
      ∙ sym (ap (list_any (is_awaited_as p n.incarnation n.id)) is
      ∙ any-filter_same (is_awaited_as p n.incarnation n.id) (other_than a) (not (is_awaited_as p n.incarnation n.id a)) found list);
}

abbrev not_of : List ℕ → ℕ → Awaited → Bool
not_of name incarnation b = not (is_of name incarnation b)

pub noted_forgotten : (name : List ℕ) (incarnation : ℕ) (list later : List Awaited) (old new : List (List ℕ × List Identifier)) →
    AreNoted list old → Notes (without_all name incarnation) old new → later ≡ filter (not_of name incarnation) list → AreNoted later new
noted_forgotten name incarnation list later old new noted notes is = record {
  each = λ p n.
      let kept = not (bytes_eq name p && (incarnation == n.incarnation)) in
      let found = λ (k : Awaited) (same : is_awaited_as p n.incarnation n.id k ≡ true).
      ap (not_of name incarnation) (sym (same_triple_is (triple_with p n) k same))
      ∙ ap (λ b. not (b && (n.incarnation == incarnation))) (nat_list_eq_equiv.symm p name)
      ∙ ap (λ b. not (bytes_eq name p && b)) (nat_eq_equiv.symm n.incarnation incarnation) in
      notes.each p n
      ∙ ap (λ b. kept && b) (noted.each p n)
      ∙ sym (ap (list_any (is_awaited_as p n.incarnation n.id)) is
      ∙ any-filter_same (is_awaited_as p n.incarnation n.id) (not_of name incarnation) kept found list);
}
