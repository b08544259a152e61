use Rattle.std.proofs.Common.{ap, sym, ◌∙◌, ◌++◌, ◌∷◌, []}
use Rattle.session_state.specs.declared.change.Effect.TheVariants.{Subscribed}
use Rattle.session_state.specs.KeptActing.{kept_changed}
use Rattle.session_state.specs.KeptView.{kept_of}
use Rattle.session_state.specs.AddLaws.{subscribed_stays}
use Rattle.session_state.proofs.ChangeLemmas.{sound_by, with_both}
use Rattle.session_state.proofs.session.Session.subscribe.Goals as goal

pub returns-clause-made : goal.returns-clause-made
returns-clause-made c =
    let m = kept_of c.self.inside in
    with_both m _ _ _ c.args.new.now c.new.view_is (c.in_ok-push_both.ensures.subs ∙ ap (λ s. m.subs ++ s ∷ []) c.in_ok-sub.ensures) c.in_ok-push_both.ensures.versions
    ∙ sym (subscribed_stays c.args.new.now m c.self.invariant.tidy)
    ∙ ap (kept_changed (Subscribed c.args.new.now)) c.self.view_is

pub invariant_of-self-2 : goal.invariant_of-self-2
invariant_of-self-2 c =
    sound_by (kept_of c.self.inside) c.args.self.now (Subscribed c.args.new.now) _ c.self.view_is c.requires c.self.invariant c.done-order.ensures.order
    (returns-clause-made c ∙ ap (kept_changed (Subscribed c.args.new.now)) (sym c.self.view_is))
