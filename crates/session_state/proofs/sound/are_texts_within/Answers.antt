use Rattle.std.proofs.Common.{ap}
use Rattle.session_state.specs.KeptSub.{KeptSub}
use Rattle.session_state.proofs.SoundLemmas.{more_bytes, too_many}
use Rattle.session_state.proofs.sound.are_texts_within.Goals as goal

pub returns-then-left-bytes : goal.returns-then-left-bytes
returns-then-left-bytes c =
    too_many c.args.subs.now c.loop-sub.sub-index c.loop-sub.left _
    (more_bytes c.args.subs.now c.loop-sub.sub-index c.sub-item.result c.sub.inside.filter c.text.result.now c.loop-sub-test.true c.sub-item.is
    (ap (λ (s : KeptSub). s.filter) c.sub.view_is) c.text.ensures.text)
    c.loop-sub.invariant c.if-left-bytes.true
