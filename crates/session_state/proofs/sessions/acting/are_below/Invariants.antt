use Rattle.std.proofs.Common.{◌≡◌, nat_lt}
use Rattle.std.specs.List.{list_all}
use Rattle.session_state.specs.KeptSession.{KeptSession, sessions_in}
use Rattle.session_state.proofs.sessions.acting.are_below.Given as goal

-- those that are left tell
abbrev pub invariant-loop-session : goal.invariant-loop-session
invariant-loop-session l =
    list_all (λ (m : KeptSession). nat_lt m.incarnation l.incarnation) (sessions_in l.map.entries)
    ≡ list_all (λ (m : KeptSession). nat_lt m.incarnation l.incarnation) l.session-iterator
