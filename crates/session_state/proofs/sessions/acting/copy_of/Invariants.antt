use Rattle.std.proofs.Common.{◌≡◌, ◌++◌}
use Rattle.session_state.specs.KeptSession.{AreKeyed, sessions_in}
use Rattle.session_state.proofs.sessions.acting.copy_of.Given as goal

-- those copied so far, and those that are left
abbrev pub invariant-loop-session : goal.invariant-loop-session
invariant-loop-session l =
    AreKeyed l.copied.entries × (sessions_in l.copied.entries ++ l.session-iterator ≡ sessions_in l.map.entries)
