use Rattle.std.proofs.Common.{◌≡◌, ◌+◌, take}
use Rattle.session_model.specs.Acting.{numbers_from}
use Rattle.seq_tracks.proofs.numbers.run_behind.Given as goal

-- those so far go on from the number, and the last one of them is so many further
abbrev pub invariant-loop-count : goal.invariant-loop-count
invariant-loop-count l = (take l.count l.numbers ≡ numbers_from (l.number + 1) l.count) × (l.last ≡ l.number + l.count)
