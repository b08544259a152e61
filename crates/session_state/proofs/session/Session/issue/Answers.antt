use Rattle.std.proofs.Common.{[], ◌∷◌, ◌++◌, refl, ap, sym, ◌∙◌}
use Rattle.session_state.specs.declared.change.Effect.TheVariants.{Issued}
use Rattle.session_state.specs.KeptActing.{kept_changed, on_sub, with_effect}
use Rattle.session_state.specs.KeptView.{kept_of}
use Rattle.session_state.specs.AddLaws.{issued_needs_versions, issued_needs_subs}
use Rattle.session_state.proofs.ChangeLemmas.{sound_by, lent_back, tidied_of}
use Rattle.session_state.proofs.session.Session.issue.Goals as goal

pub tidy-requires-clause-versions : goal.tidy-requires-clause-versions
tidy-requires-clause-versions c =
    let m = kept_of c.self.inside in
    let subs = lent_back c.self.inside.subs.items c.deref_mut.result.now c.set_sweep.new.subs c.self.inside.subs.len c.deref_mut.ensures.value c.deref_mut.ensures.len
    c.set_sweep.auto.subs ∙ c.set_sweep.ensures ∙ ap (on_sub _ _) c.deref_mut.ensures.value in
    let batches = c.push_reserved.ensures.items ∙ ap (λ l. l ++ c.args.issued.now.batch ∷ []) c.reserve.ensures.items in
    rw (subs, batches) (issued_needs_versions c.args.issued.now m c.self.invariant.tidy)

pub tidy-requires-clause-subs : goal.tidy-requires-clause-subs
tidy-requires-clause-subs c =
    let m = kept_of c.self.inside in
    let subs = lent_back c.self.inside.subs.items c.deref_mut.result.now c.set_sweep.new.subs c.self.inside.subs.len c.deref_mut.ensures.value c.deref_mut.ensures.len
    c.set_sweep.auto.subs ∙ c.set_sweep.ensures ∙ ap (on_sub _ _) c.deref_mut.ensures.value in
    rw subs (issued_needs_subs c.args.issued.now m c.self.invariant.tidy)

pub returns-clause-made : goal.returns-clause-made
returns-clause-made c =
    let n = with_effect (Issued c.args.issued.now) (kept_of c.self.inside) in
    let subs = lent_back c.self.inside.subs.items c.deref_mut.result.now c.set_sweep.new.subs c.self.inside.subs.len c.deref_mut.ensures.value c.deref_mut.ensures.len
    c.set_sweep.auto.subs ∙ c.set_sweep.ensures ∙ ap (on_sub _ _) c.deref_mut.ensures.value in
    let batches = c.push_reserved.ensures.items ∙ ap (λ l. l ++ c.args.issued.now.batch ∷ []) c.reserve.ensures.items in
    tidied_of n _ _ _ _ _ _ _ c.in_ok-issue.ensures.issued batches refl subs c.tidy.ensures.batches c.tidy.ensures.versions c.tidy.ensures.subs
    ∙ ap (kept_changed (Issued c.args.issued.now)) c.self.view_is

pub invariant_of-self-2 : goal.invariant_of-self-2
invariant_of-self-2 c =
    sound_by (kept_of c.self.inside) c.args.self.now (Issued c.args.issued.now) _ c.self.view_is c.requires c.self.invariant c.done-order.ensures.order
    (returns-clause-made c ∙ ap (kept_changed (Issued c.args.issued.now)) (sym c.self.view_is))
