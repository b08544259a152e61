use Rattle.std.proofs.Common.{◌≡◌, ◌≤◌, ◌+◌, ◌*◌, drop}
use Rattle.first_session_core.specs.Pump.{quota_used}
use Rattle.first_session_core.proofs.tracks.used_by.Given as goal

-- what is counted so far and what is left are all
abbrev pub invariant-loop-entry : goal.invariant-loop-entry
invariant-loop-entry l = record { few : l.used ≤ 2 * l.entry-index; all : l.used + quota_used (drop l.entry-index l.entries) ≡ quota_used l.entries }
