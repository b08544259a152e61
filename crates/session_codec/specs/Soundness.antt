-- Which sessions may be the sessions of a worker.
use Rattle.std.specs.Prelude.{ℕ, Bool, true, ◌&&◌, List, [], ◌∷◌, ◌++◌}
use Rattle.session_state.specs.KeptSession.{KeptSession, KeptSessions}
use Rattle.session_state.specs.SoundTest.{may_add}

-- these may be added, one after the other: clients and incarnations are distinct, the latter ascend below the next one, and the limits of a
-- worker hold
abbrev pub may_add_all : KeptSessions → List KeptSession → Bool
may_add_all s [] = true
may_add_all s (m ∷ ms) = may_add m s && may_add_all (record s { list = s.list ++ m ∷ [] }) ms

abbrev pub sessions_with : ℕ → List KeptSession → KeptSessions
sessions_with next list = record { list = list; next = next }

abbrev pub are_sound : KeptSessions → Bool
are_sound s = may_add_all (sessions_with s.next []) s.list
