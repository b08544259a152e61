use Rattle.std.proofs.Common.{◌≡◌, ◌-◌}
use Rattle.std.specs.List.{list_any}
use Rattle.session_model.specs.Acting.{numbers_from}
use Rattle.seq_tracks.specs.PlainTracks.{is_unfinished}
use Rattle.session_state.proofs.keeping.any_unfinished_between.Given as goal

-- none so far, so those that are left tell
abbrev pub invariant-loop-number : goal.invariant-loop-number
invariant-loop-number l =
    list_any (is_unfinished l.tracks l.track) (numbers_from l.first (l.end - l.first))
    ≡ list_any (is_unfinished l.tracks l.track) (numbers_from l.number (l.end - l.number))
