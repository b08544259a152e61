use Rattle.std.proofs.Common.{◌≡◌, ◌+◌, ◌-◌, ◌||◌, not, ℕ}
use Rattle.std.specs.List.{list_all}
use Rattle.session_model.specs.Acting.{numbers_from}
use Rattle.seq_tracks.specs.PlainTracks.{is_unfinished1}
use Rattle.session_state.specs.SoundTest.{each_lies1, lies_in_one1}
use Rattle.session_state.proofs.sound.each_lies1.Given as goal

-- those that are left tell
abbrev pub invariant-loop-number : goal.invariant-loop-number
invariant-loop-number l =
    each_lies1 l.tracks l.batches
    ≡ list_all (λ (n : ℕ). not (is_unfinished1 l.tracks n) || lies_in_one1 l.batches n) (numbers_from l.number (l.tracks.issued1 + 1 - l.number))
