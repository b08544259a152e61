use Rattle.std.proofs.Common.{sym, ◌∙◌, rules}
use Rattle.std.proofs.lemmas.List.Sorted.{IsNonDecreasingBy-from_sort_by_key, answers_always, All-permutation}
use Rattle.mqtt_props.specs.Prop.{id_of, IsProp}
use Rattle.mqtt_props.specs.OrderLaws.{sorted_is_in_order, same_order}
use Rattle.mqtt_props.proofs.listing.sort_props.Goals as goal

pub returns-clause-ok : goal.returns-clause-ok
returns-clause-ok c =
    let fits = All-permutation IsProp _ _ c.sort_by_key.ensures.permutation c.requires in
    let up = IsNonDecreasingBy-from_sort_by_key id_of _ c.in_ok-sort_by_key.ensures.sorted (λ a r q k. search rules) in
    sym (sorted_is_in_order _ up fits) ∙ same_order _ _ (c.sort_by_key.ensures.stable id_of (answers_always _ _ _ (λ f a r g h. search rules)))

pub returns-clause-fits : goal.returns-clause-fits
returns-clause-fits c = All-permutation IsProp _ _ c.sort_by_key.ensures.permutation c.requires

pub returns-clause-again : goal.returns-clause-again
returns-clause-again c =
    let fits = All-permutation IsProp _ _ c.sort_by_key.ensures.permutation c.requires in
    let up = IsNonDecreasingBy-from_sort_by_key id_of _ c.in_ok-sort_by_key.ensures.sorted (λ a r q k. search rules) in
    sorted_is_in_order _ up fits
