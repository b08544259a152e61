use Rattle.std.proofs.Common.{◌≡◌, ◌++◌, take}
use Rattle.std.specs.List.{flat_map}
use Rattle.session_codec.specs.Spelling.{spelled_session}
use Rattle.session_codec.proofs.putting_sessions.put_each.Given as goal

abbrev pub invariant-loop-place : goal.invariant-loop-place
invariant-loop-place l = l.out.items ≡ l.initial.out.items ++ flat_map (spelled_session 2) (take l.place l.sessions.list)
