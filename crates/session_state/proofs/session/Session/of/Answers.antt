use Rattle.std.proofs.Common.{ap, sym, ◌∙◌}
use Rattle.session_state.specs.KeptSession.{KeptSession}
use Rattle.session_state.specs.SoundTest.{is_sound}
use Rattle.session_state.specs.SoundLaws.{sound_from_test}
use Rattle.session_state.proofs.session.Session.of.Goals as goal

pub invariant_of-result : goal.invariant_of-result
invariant_of-result c =
    sound_from_test _ (ap (λ (m : KeptSession). is_sound m) c.parts.view_is ∙ sym c.is_sound.ensures ∙ c.if-not-is_sound.false)
