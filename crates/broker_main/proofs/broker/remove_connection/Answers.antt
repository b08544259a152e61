use Rattle.std.proofs.Common.{rules, eqb, not}
use Rattle.std.proofs.lemmas.Fn.{filter_same}
use Rattle.first_session_core.specs.PlainConnection.{PlainConnection}
use Rattle.broker_main.proofs.broker.remove_connection.Goals as goal

pub returns : goal.returns
returns c = filter_same _ (λ (k : PlainConnection). not (eqb k.number c.args.number)) _ (λ x b q h. search rules) _ _ c.retain.ensures.filtered
