use Rattle.std.proofs.Common.{◌≡◌, ℕ, ◌+◌, nat_le, ap, sym, ◌∙◌}
use Rattle.topic_model.specs.Profile.{whole}
use Rattle.session_state.specs.declared.change.Effect.TheVariants.{Issued}
use Rattle.session_state.specs.KeptSession.{KeptSession}
use Rattle.session_state.specs.KeptActing.{kept_changed}
use Rattle.session_state.specs.KeptFits.{kept_within}
use Rattle.session_state.specs.KeptView.{kept_of}
use Rattle.session_state.specs.AddLaws.{issued_within}
use Rattle.session_state.proofs.session.Session.has_room_for.Goals as goal

same_sum : (a b c d a' b' c' d' : ℕ) → a ≡ a' → b ≡ b' → c ≡ c' → d ≡ d' → nat_le (a + (b + c)) d ≡ nat_le (a' + (b' + c')) d'
same_sum a b c d a' b' c' d' is_a is_b is_c is_d =
    ap (λ n. nat_le (n + (b + c)) d) is_a ∙ ap (λ n. nat_le (a' + (n + c)) d) is_b ∙ ap (λ n. nat_le (a' + (b' + n)) d) is_c ∙ ap (λ n. nat_le (a' + (b' + c')) n) is_d

pub returns : goal.returns
returns c =
    same_sum _ _ _ _ _ _ _ _ (c.from-3.ensures ∙ c.in_use.ensures.used) c.from.ensures c.from-2.ensures c.from-4.ensures
    ∙ sym (issued_within c.args.issued.now (kept_of c.self.inside) c.self.invariant c.done-order.ensures.order)
    ∙ ap (λ (m : KeptSession). kept_within whole (kept_changed (Issued c.args.issued.now) m)) c.self.view_is
