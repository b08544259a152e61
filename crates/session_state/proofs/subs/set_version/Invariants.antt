use Rattle.std.proofs.Common.{◌≡◌, ◌++◌, take, drop}
use Rattle.session_state.specs.KeptSub.{KeptSub}
use Rattle.session_state.specs.KeptActing.{on_sub}
use Rattle.session_state.proofs.subs.set_version.Given as goal

-- those before the place are changed
abbrev pub invariant-loop-sub : goal.invariant-loop-sub
invariant-loop-sub l =
    l.subs ≡ on_sub l.number (λ (s : KeptSub). record s { version = l.version }) (take l.sub-index l.initial.subs) ++ drop l.sub-index l.initial.subs
