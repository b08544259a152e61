use Rattle.std.proofs.Common.{◌++◌, ◌∷◌, [], ap, sym, ◌∙◌}
use Rattle.shard_index.specs.Absorbing.{sealed_last}
use Rattle.shard_index.proofs.ListLemmas.{sealed_pushed}
use Rattle.shard_index.proofs.lists.seal_last.Goals as goal

pub returns-in-Some-clause-items : goal.returns-in-Some-clause-items
returns-in-Some-clause-items c =
    c.push_reserved.ensures.items
    ∙ ap (λ x. c.pop.new.self.items ++ x ∷ []) c.sealed.ensures
    ∙ sym (sealed_pushed c.args.now c.pop.new.self.items c.in-Some.newest)
    ∙ ap (sealed_last c.args.now) (sym c.in-Some.ensures.items)
