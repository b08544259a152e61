use Rattle.std.proofs.Common.{◌∙◌}
use Rattle.seq_tracks.proofs.SearchLemmas.{found_or_not}
use Rattle.seq_tracks.proofs.numbers.has.Goals as goal

pub returns : goal.returns
returns c = c.is_ok.ensures.value ∙ found_or_not c.args.numbers.now c.args.number c.binary_search.result c.binary_search.ensures.position c.requires
