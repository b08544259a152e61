use Rattle.seq_tracks.proofs.SearchLemmas.{place_found, place_not_found}
use Rattle.seq_tracks.proofs.numbers.place_of.Goals as goal

pub returns-in-Ok-clause-before : goal.returns-in-Ok-clause-before
returns-in-Ok-clause-before c = (place_found c.args.numbers.now c.args.number c.in-Ok.place c.binary_search.result c.binary_search.ensures.position c.requires c.in-Ok.is).0

pub returns-in-Ok-clause-behind : goal.returns-in-Ok-clause-behind
returns-in-Ok-clause-behind c = (place_found c.args.numbers.now c.args.number c.in-Ok.place c.binary_search.result c.binary_search.ensures.position c.requires c.in-Ok.is).1

pub returns-in-Err-clause-before : goal.returns-in-Err-clause-before
returns-in-Err-clause-before c = (place_not_found c.args.numbers.now c.args.number c.in-Err.place c.binary_search.result c.binary_search.ensures.position c.requires c.in-Err.is).0

pub returns-in-Err-clause-behind : goal.returns-in-Err-clause-behind
returns-in-Err-clause-behind c = (place_not_found c.args.numbers.now c.args.number c.in-Err.place c.binary_search.result c.binary_search.ensures.position c.requires c.in-Err.is).1
