use Rattle.std.proofs.Common.{lit<}
use Rattle.topic_model.specs.laws.LevelsLaws.{pieces_whole}
use Rattle.topic_name.proofs.LevelsLemmas.{cut_at_first}
use Rattle.topic_name.proofs.levels.first_level.Goals as goal

pub returns-in-Some : goal.returns-in-Some
returns-in-Some c =
    let round = c.in-Some.ensures.byte (lit< tt) (λ w o found. found) in
    cut_at_first c.args.text.now c.in-Some.level.now c.in-Some.behind.now round.0 round.1 round.2

pub returns-in-None : goal.returns-in-None
returns-in-None c = pieces_whole 0x2F c.args.text.now (c.in-None.ensures.byte (lit< tt) (λ w o found. found))
