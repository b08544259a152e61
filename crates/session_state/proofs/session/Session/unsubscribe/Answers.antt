use Rattle.std.proofs.Common.{refl, ap, sym, ◌∙◌}
use Rattle.session_state.specs.declared.change.Effect.TheVariants.{Unsubscribed}
use Rattle.session_state.specs.KeptActing.{kept_changed, on_sub, with_effect}
use Rattle.session_state.specs.KeptView.{kept_of}
use Rattle.session_state.proofs.ChangeLemmas.{sound_by, lent_back, tidied_of}
use Rattle.session_state.proofs.session.Session.unsubscribe.Goals as goal

pub returns : goal.returns
returns c =
    let n = with_effect (Unsubscribed c.args.number) (kept_of c.self.inside) in
    let subs = lent_back c.self.inside.subs.items c.deref_mut.result.now c.end_sub.new.subs c.self.inside.subs.len c.deref_mut.ensures.value c.deref_mut.ensures.len
    c.end_sub.auto.subs ∙ c.end_sub.ensures ∙ ap (on_sub _ _) c.deref_mut.ensures.value in
    tidied_of n _ _ _ _ _ _ _ refl refl refl subs (sym c.self.invariant.tidy.batches)
    (rw c.deref.ensures.value at c.drop_unneeded.ensures.versions)
    c.drop_unneeded.ensures.subs
    ∙ ap (kept_changed (Unsubscribed c.args.number)) c.self.view_is

pub invariant_of-self : goal.invariant_of-self
invariant_of-self c =
    sound_by (kept_of c.self.inside) c.args.self.now (Unsubscribed c.args.number) _ c.self.view_is c.requires c.self.invariant c.done-order.ensures.order
    (returns c ∙ ap (kept_changed (Unsubscribed c.args.number)) (sym c.self.view_is))
