use Rattle.std.proofs.Common.{◌≡◌, ℕ, ◌&&◌, ◌+◌, nat_le, nat_lt, length, is_none, ap, sym, ◌∙◌, arith}
use Rattle.topic_model.specs.Profile.{whole}
use Rattle.topic_model.specs.Levels.{text_of_levels}
use Rattle.topic_model.specs.Texts.{filter_refusal}
use Rattle.session_model.specs.Change.{Subscribes}
use Rattle.session_state.specs.declared.change.Effect.TheVariants.{Subscribed}
use Rattle.session_state.specs.KeptSession.{KeptSession}
use Rattle.session_state.specs.KeptActing.{kept_changed}
use Rattle.session_state.specs.KeptFits.{kept_within, live_count, text_bytes}
use Rattle.session_state.specs.KeptView.{kept_of}
use Rattle.session_state.specs.LimitLaws.{few_bytes}
use Rattle.session_state.specs.AddLaws.{subscribed_within}
use Rattle.session_state.proofs.session.Session.has_place_for.Goals as goal

pub text_bytes-requires : goal.text_bytes-requires
text_bytes-requires c =
    let few = few_bytes (kept_of c.self.inside) c.self.invariant.within in
    let same = ap text_bytes c.deref.ensures.value in
    omega arith

pub overflow_add-texts : goal.overflow_add-texts
overflow_add-texts c =
    let few = few_bytes (kept_of c.self.inside) c.self.invariant.within in
    let same = c.text_bytes.ensures ∙ ap text_bytes c.deref.ensures.value in
    let short = c.text.type_inv.1 in
    omega arith

same_tests : (a b n : ℕ) (a' b' n' : ℕ) → a ≡ a' → b ≡ b' → n ≡ n' → (nat_lt a 64 && nat_le (b + n) 65536) ≡ (nat_lt a' 64 && nat_le (b' + n') 65536)
same_tests a b n a' b' n' is_a is_b is_n =
    ap (λ x. nat_lt x 64 && nat_le (b + n) 65536) is_a ∙ ap (λ x. nat_lt a' 64 && nat_le (x + n) 65536) is_b ∙ ap (λ x. nat_lt a' 64 && nat_le (b' + x) 65536) is_n

pub returns : goal.returns
returns c =
    let levels = ap (λ (s : Subscribes). s.filter) c.new.view_is in
    let text = c.text.ensures.text ∙ ap text_of_levels levels in
    c.are_within.ensures
    ∙ same_tests _ _ _ _ _ _ (c.live_count.ensures ∙ ap live_count c.deref-2.ensures.value) (c.text_bytes.ensures ∙ ap text_bytes c.deref.ensures.value) (ap length text)
    ∙ sym
    (subscribed_within c.args.new.now (kept_of c.self.inside) c.self.invariant
    (ap (λ t. is_none (filter_refusal t)) (sym text) ∙ ap is_none c.text.ensures.accepted))
    ∙ ap (λ (m : KeptSession). kept_within whole (kept_changed (Subscribed c.args.new.now) m)) c.self.view_is
