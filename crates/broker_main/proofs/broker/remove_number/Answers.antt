use Rattle.std.proofs.Common.{rules, eqb, not}
use Rattle.std.proofs.lemmas.Fn.{filter_same}
use Rattle.broker_main.proofs.broker.remove_number.Goals as goal

pub returns : goal.returns
returns c = filter_same _ (λ d. not (eqb d c.args.number)) _ (λ x b q h. search rules) _ _ c.retain.ensures.filtered
