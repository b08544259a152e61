use Rattle.std.proofs.Common.{◌≡◌, ap, subst, ◌∙◌, sym, true}
use Rattle.topic_model.specs.Profile.{whole}
use Rattle.session_state.specs.declared.change.Effect.{Effect}
use Rattle.session_state.specs.KeptSession.{KeptSession}
use Rattle.session_state.specs.KeptActing.{kept_changed}
use Rattle.session_state.specs.KeptFits.{kept_suits, kept_within}
use Rattle.session_state.specs.KeptView.{kept_of}
use Rattle.session_state.specs.LimitLaws.{stays_within, adds_neither}
use Rattle.session_state.proofs.session.Session.stays_within.Goals as goal

pub returns-in-Subscribed : goal.returns-in-Subscribed
returns-in-Subscribed c = c.has_place_for.ensures ∙ ap (λ (e : Effect). kept_within whole (kept_changed e c.args.self.now)) (sym c.in-Subscribed.is)

pub returns-in-Issued : goal.returns-in-Issued
returns-in-Issued c = c.has_room_for.ensures ∙ ap (λ (e : Effect). kept_within whole (kept_changed e c.args.self.now)) (sym c.in-Issued.is)

pub returns-in_default : goal.returns-in_default
returns-in_default c =
    let suits = subst (λ (m : KeptSession). kept_suits m c.args.effect.now ≡ true) (sym c.self.view_is) c.requires in
    sym
    (ap (λ (m : KeptSession). kept_within whole (kept_changed c.args.effect.now m)) (sym c.self.view_is)
    ∙ stays_within (kept_of c.self.inside) c.args.effect.now (adds_neither c.args.effect.now c.in_default.not-Subscribed c.in_default.not-Issued) suits c.self.invariant.within)
