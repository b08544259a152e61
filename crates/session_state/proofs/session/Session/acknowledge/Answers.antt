use Rattle.session_state.specs.declared.change.Effect.TheVariants.{Acked}
use Rattle.session_state.specs.KeptView.{kept_of}
use Rattle.session_state.proofs.ChangeLemmas.{sound_by, tidied_with}
use Rattle.session_state.proofs.session.Session.acknowledge.Goals as goal

pub invariant_of-self : goal.invariant_of-self
invariant_of-self c =
    sound_by (kept_of c.self.inside) c.args.self.now (Acked c.args.number) _ c.self.view_is c.requires c.self.invariant c.done-order.ensures.order
    (tidied_with (kept_of c.self.inside) _ _ _ _ _ c.puback.ensures c.tidy.ensures.batches c.tidy.ensures.versions c.tidy.ensures.subs)
