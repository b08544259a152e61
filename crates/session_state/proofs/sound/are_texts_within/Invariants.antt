use Rattle.std.proofs.Common.{◌≡◌, ◌+◌, take}
use Rattle.session_state.specs.KeptFits.{text_bytes}
use Rattle.session_state.proofs.sound.are_texts_within.Given as goal

abbrev pub invariant-loop-sub : goal.invariant-loop-sub
invariant-loop-sub l = l.left + text_bytes (take l.sub-index l.subs) ≡ 65536
