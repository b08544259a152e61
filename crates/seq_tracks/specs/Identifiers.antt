-- The packet identifiers of numbers, and the unfinished number that has one (MQTT 2.2.1).
use Rattle.std.specs.Prelude.{ℕ, ◌+◌, ◌-◌, ◌≡◌, not, ◌==◌, if◌then◌else◌, IsTrue, List, [], filter, find, Option}
use Rattle.session_model.specs.Entry.{id1, id2}
use Rattle.session_model.specs.Acting.{numbers_from}
use Rattle.seq_tracks.specs.PlainTracks.{PlainTracks, is_done, is_unfinished}

-- the identifier of a number of track 1, and else of track 2
abbrev pub id_of : ℕ → ℕ → ℕ
id_of track number = if track == 1 then id1 number else id2 number

-- the unfinished numbers of track 1, and those of track 2, ascending
abbrev pub unfinished1 : PlainTracks → List ℕ
unfinished1 t = numbers_from (t.acked + 1) (t.issued1 - t.acked)

abbrev pub unfinished2 : PlainTracks → List ℕ
unfinished2 t = filter (λ (n : ℕ). not (is_done t n)) (numbers_from (t.complete + 1) (t.issued2 - t.complete))

-- on track 1 or 2; there is no third track
abbrev pub unfinished_on : PlainTracks → ℕ → List ℕ
unfinished_on t track = if track == 1 then unfinished1 t else if track == 2 then unfinished2 t else []

-- the unfinished number of a track with this identifier, none where there is none
abbrev pub seq_of : PlainTracks → ℕ → ℕ → Option ℕ
seq_of t track id = find (λ (n : ℕ). id_of track n == id) (unfinished_on t track)

-- a number is unfinished on a track and has this identifier there
pub record HasIdentifier (t : PlainTracks) (track id number : ℕ) : Type 0 where
  pub unfinished : IsTrue (is_unfinished t track number)
  pub identifier : id_of track number ≡ id
