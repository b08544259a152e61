use Rattle.std.proofs.Common.{ℕ, Bool, ◌==◌, ◌&&◌, not, rules, ap, sym, ◌∙◌}
use Rattle.std.specs.Cmp.{nat_eq_equiv}
use Rattle.std.proofs.lemmas.Fn.{filter_same}
use Rattle.std.proofs.lemmas.Map.Views.{any-filter_same}
use Rattle.shard_index.specs.Identifiers.{Identifier, has_identifier, same_identifier, same_identifier_is}
use Rattle.shard_index.proofs.identifiers.Identifiers.forget.Goals as goal

abbrev of_others : ℕ → Identifier → Bool
of_others incarnation k = not (k.incarnation == incarnation)

pub returns : goal.returns
returns c = λ n.
    ap (has_identifier n)
    (filter_same _ (of_others c.args.incarnation) _ (λ x b q h. search rules) c.self.inside.set.keys c.retain.new.self.keys c.retain.ensures.filtered)
    ∙ any-filter_same (same_identifier n) (of_others c.args.incarnation) (not (c.args.incarnation == n.incarnation))
    (λ k same. ap (of_others c.args.incarnation) (sym (same_identifier_is n k same)) ∙ ap not (nat_eq_equiv.symm n.incarnation c.args.incarnation)) c.self.inside.set.keys
    ∙ ap (λ ns. not (c.args.incarnation == n.incarnation) && has_identifier n ns) c.self.view_is
