use Rattle.std.proofs.Common.{sym}
use Rattle.seq_tracks.specs.AgreeLaws.{numbers1-unfinished, numbers2-unfinished}
use Rattle.seq_tracks.proofs.laws.unfinished_numbers_agree.Goals as goal

pub returns-clause-track1 : goal.returns-clause-track1
returns-clause-track1 c t m h numbers = sym (numbers1-unfinished t m h numbers)

pub returns-clause-track2 : goal.returns-clause-track2
returns-clause-track2 c t m h numbers = sym (numbers2-unfinished t m h numbers)
