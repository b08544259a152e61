use Rattle.std.proofs.Common.{refl, ap, sym, ◌∙◌}
use Rattle.session_state.specs.declared.change.Effect.TheVariants.{Replaced}
use Rattle.session_state.specs.KeptActing.{kept_changed, on_sub, with_effect}
use Rattle.session_state.specs.KeptView.{kept_of}
use Rattle.session_state.proofs.ChangeLemmas.{sound_by, lent_back, tidied_of}
use Rattle.session_state.proofs.session.Session.replace.Goals as goal

pub returns-clause-made : goal.returns-clause-made
returns-clause-made c =
    let n = with_effect (Replaced c.args.replaced.now) (kept_of c.self.inside) in
    let subs = lent_back c.self.inside.subs.items c.deref_mut.result.now c.set_version.new.subs c.self.inside.subs.len c.deref_mut.ensures.value c.deref_mut.ensures.len
    c.set_version.auto.subs ∙ c.set_version.ensures ∙ ap (on_sub _ _) c.deref_mut.ensures.value in
    tidied_of n _ _ _ _ _ _ _ refl refl c.in_ok-push.ensures.items subs (sym c.self.invariant.tidy.batches)
    (rw c.deref.ensures.value at c.drop_unneeded.ensures.versions)
    c.drop_unneeded.ensures.subs
    ∙ ap (kept_changed (Replaced c.args.replaced.now)) c.self.view_is

pub invariant_of-self-2 : goal.invariant_of-self-2
invariant_of-self-2 c =
    sound_by (kept_of c.self.inside) c.args.self.now (Replaced c.args.replaced.now) _ c.self.view_is c.requires c.self.invariant c.done-order.ensures.order
    (returns-clause-made c ∙ ap (kept_changed (Replaced c.args.replaced.now)) (sym c.self.view_is))
