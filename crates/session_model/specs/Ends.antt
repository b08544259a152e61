-- When sessions are over, and what a restart owes them.
use Rattle.std.specs.Prelude.{ℕ, ◌+◌, ◌*◌, ◌-◌, ◌^◌, Bool, false, ◌&&◌, not, ◌==◌, nat_le, min, if◌then◌else◌, List, []}
use Rattle.std.specs.Prelude.{◌∷◌, Option, Some, None}
use Rattle.std.specs.List.{flat_map}
use Rattle.session_model.specs.PlainSession.{PlainSession, Sessions}
use Rattle.session_model.specs.Change.{Change, Ended, Parted, change}

-- an expiry interval that never ends (MQTT 3.1.2.11.2)
abbrev pub for_ever : ℕ
for_ever = 2 ^ 32 - 1

-- a moment that may be kept: the greatest number spells none
abbrev pub moment_of : ℕ → ℕ
moment_of now = min now (2 ^ 64 - 2)

abbrev pub is_past : ℕ → ℕ → Option ℕ → Bool
is_past expiry now None = false
is_past expiry now (Some parted) = nat_le (parted + 1000 * expiry) now

-- a session without a connection whose interval is over
abbrev pub is_over : ℕ → PlainSession → Bool
is_over now m = not (m.expiry == for_ever) && is_past m.expiry now m.parted

abbrev pub and_ended : ℕ → List ℕ → List Change
and_ended expiry client = if expiry == 0 then change client Ended ∷ [] else []

-- The end of a connection, with the interval that then counts: the session parts, and ends where that is 0 (MQTT 4.1).
abbrev pub part_changes : List ℕ → ℕ → ℕ → List Change
part_changes client expiry now = change client (Parted (record { expiry = expiry; moment = moment_of now }))
    ∷ and_ended expiry client

abbrev pub owed_to : ℕ → Option ℕ → PlainSession → List Change
owed_to now None m = part_changes m.client m.expiry now
owed_to now (Some parted) m = []

-- A restart owes each session that had a connection its end, at the restart's moment.
abbrev pub restart_owes : ℕ → Sessions → List Change
restart_owes now s = flat_map (λ (m : PlainSession). owed_to now m.parted m) s.list
