-- How long spellings are, as numbers.
use Rattle.std.specs.Prelude.{ℕ, ◌+◌, ◌*◌, ◌==◌, if◌then◌else◌, List, length}
use Rattle.std.specs.List.{sum_by}
use Rattle.topic_model.specs.Levels.{text_of_levels}
use Rattle.session_model.specs.Change.{Subscribes}
use Rattle.session_state.specs.declared.change.Change.{Change}
use Rattle.session_state.specs.declared.change.Effect.{Effect}
use Rattle.session_state.specs.declared.change.Effect.TheVariants.{Began, Ended, Bound, Parted, Subscribed, Replaced, Unsubscribed, Issued, Acked, Received, Done, Passed}
use Rattle.session_state.specs.KeptSub.{KeptSub}
use Rattle.session_state.specs.KeptSession.{KeptSession, KeptSessions}
use Rattle.session_codec.specs.declared.formats.TheConstants.{FIRST_FORMAT}
use Rattle.session_codec.specs.Spelling.{KeptSnapshot}

abbrev pub sweep_size : ℕ
sweep_size = 36

abbrev pub version_size : ℕ
version_size = 13

abbrev pub batch_size : ℕ
batch_size = 57

-- the bytes of a filter's text
abbrev pub text_size : List (List ℕ) → ℕ
text_size levels = length (text_of_levels levels)

abbrev pub window_size : ℕ → ℕ
window_size format = if format == FIRST_FORMAT then 0 else 2

-- ---- changes

abbrev pub subscribed_size : Subscribes → ℕ
subscribed_size s = 15 + (text_size s.filter + sweep_size * length s.sweeps)

-- what stands behind the client
abbrev pub effect_size : ℕ → Effect → ℕ
effect_size format (Began b) = 12 + window_size format
effect_size format Ended = 0
effect_size format (Bound expiry) = 4
effect_size format (Parted p) = 12
effect_size format (Subscribed s) = subscribed_size s
effect_size format (Replaced r) = 13
effect_size format (Unsubscribed number) = 4
effect_size format (Issued i) = 4 + batch_size + sweep_size
effect_size format (Acked number) = 8
effect_size format (Received number) = 8
effect_size format (Done number) = 8
effect_size format (Passed p) = 9

abbrev pub change_size : ℕ → Change → ℕ
change_size format c = 3 + (length c.client + effect_size format c.effect)

abbrev pub changes_size : ℕ → List Change → ℕ
changes_size format changes = 2 + sum_by (change_size format) changes

-- ---- a snapshot

abbrev pub sub_size : KeptSub → ℕ
sub_size s = 11 + (text_size s.filter + sweep_size * length s.sweeps)

-- 26 bytes of numbers besides the window, 42 of tracks, and the counts
abbrev pub session_size : ℕ → KeptSession → ℕ
session_size format m =
    2 + length m.client + 20 + window_size format + 8 + (40 + (2 + 8 * length m.tracks.done))
    + ((2 + sum_by sub_size m.subs) + ((2 + version_size * length m.versions) + (2 + batch_size * length m.batches)))

abbrev pub sessions_size : ℕ → KeptSessions → ℕ
sessions_size format s = 12 + sum_by (session_size format) s.list

abbrev pub snapshot_size : KeptSnapshot → ℕ
snapshot_size s = 4 + sessions_size s.format s.sessions
