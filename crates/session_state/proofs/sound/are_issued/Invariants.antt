use Rattle.std.proofs.Common.{◌≡◌, ◌≤◌, drop}
use Rattle.session_state.specs.SoundTest.{are_issued}
use Rattle.session_state.proofs.sound.are_issued.Given as goal

-- those that are left tell
abbrev pub invariant-loop-batch : goal.invariant-loop-batch
invariant-loop-batch l =
    (are_issued 1 1 l.tracks.issued1 l.tracks.issued2 l.batches
    ≡ are_issued l.low1 l.low2 l.tracks.issued1 l.tracks.issued2 (drop l.batch-index l.batches))
    × (1 ≤ l.low1) × (1 ≤ l.low2)
