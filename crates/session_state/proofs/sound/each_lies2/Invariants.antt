use Rattle.std.proofs.Common.{◌≡◌, ◌+◌, ◌-◌, ◌||◌, not, ℕ}
use Rattle.std.specs.List.{list_all}
use Rattle.session_model.specs.Acting.{numbers_from}
use Rattle.seq_tracks.specs.PlainTracks.{is_unfinished2}
use Rattle.session_state.specs.SoundTest.{each_lies2, lies_in_one2}
use Rattle.session_state.proofs.sound.each_lies2.Given as goal

-- those that are left tell
abbrev pub invariant-loop-number : goal.invariant-loop-number
invariant-loop-number l =
    each_lies2 l.tracks l.batches
    ≡ list_all (λ (n : ℕ). not (is_unfinished2 l.tracks n) || lies_in_one2 l.batches n) (numbers_from l.number (l.tracks.issued2 + 1 - l.number))
