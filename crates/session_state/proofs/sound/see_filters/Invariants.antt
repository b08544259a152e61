use Rattle.std.proofs.Common.{◌≡◌, drop}
use Rattle.session_state.specs.KeptFits.{has_filters}
use Rattle.session_state.proofs.sound.see_filters.Given as goal

abbrev pub invariant-loop-sub : goal.invariant-loop-sub
invariant-loop-sub l = has_filters l.subs ≡ has_filters (drop l.sub-index l.subs)
