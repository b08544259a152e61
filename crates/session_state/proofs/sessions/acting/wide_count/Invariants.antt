use Rattle.std.proofs.Common.{◌≡◌, ◌+◌}
use Rattle.topic_model.specs.Profile.{whole}
use Rattle.session_state.specs.KeptSession.{sessions_in}
use Rattle.session_state.specs.KeptFits.{wide_count}
use Rattle.session_state.proofs.sessions.acting.wide_count.Given as goal

-- those so far, and those that are left
abbrev pub invariant-loop-session : goal.invariant-loop-session
invariant-loop-session l = l.count + wide_count whole l.session-iterator ≡ wide_count whole (sessions_in l.map.entries)
