use Rattle.seq_tracks.specs.AgreeLaws.{room_is_for_both}
use Rattle.seq_tracks.proofs.laws.room_is_for_both.Goals as goal

pub returns : goal.returns
returns c = room_is_for_both
