use Rattle.seq_tracks.specs.AgreeLaws.{in_use_agrees, room_agrees, unfinished1_agrees, unfinished2_agrees, released_agrees}
use Rattle.seq_tracks.proofs.laws.readings_agree.Goals as goal

pub returns-clause-in_use : goal.returns-clause-in_use
returns-clause-in_use c = in_use_agrees

pub returns-clause-room : goal.returns-clause-room
returns-clause-room c = room_agrees

pub returns-clause-unfinished1 : goal.returns-clause-unfinished1
returns-clause-unfinished1 c = unfinished1_agrees

pub returns-clause-unfinished2 : goal.returns-clause-unfinished2
returns-clause-unfinished2 c = unfinished2_agrees

pub returns-clause-released : goal.returns-clause-released
returns-clause-released c = released_agrees
