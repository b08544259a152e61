use Rattle.std.proofs.Common.{◌≡◌, ◌+◌, ◌-◌, ◌++◌}
use Rattle.std.specs.Prelude.{vec_capacity}
use Rattle.session_model.specs.Acting.{numbers_from}
use Rattle.seq_tracks.proofs.done.push_run.Given as goal

-- so many were put behind those that stood there, in the same room
abbrev pub invariant-loop-before : goal.invariant-loop-before
invariant-loop-before l =
    (l.done.items ≡ l.initial.done.items ++ numbers_from (l.number + 1) (l.before - l.number)) × (vec_capacity l.done ≡ vec_capacity l.initial.done)
