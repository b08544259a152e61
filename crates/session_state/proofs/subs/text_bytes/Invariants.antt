use Rattle.std.proofs.Common.{◌≡◌, take}
use Rattle.session_state.specs.KeptFits.{text_bytes}
use Rattle.session_state.proofs.subs.text_bytes.Given as goal

abbrev pub invariant-loop-sub : goal.invariant-loop-sub
invariant-loop-sub l = l.bytes ≡ text_bytes (take l.sub-index l.subs)
