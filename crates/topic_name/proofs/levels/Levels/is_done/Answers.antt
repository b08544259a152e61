use Rattle.topic_name.proofs.LevelsLemmas.{done_without_rest}
use Rattle.topic_name.proofs.levels.Levels.is_done.Goals as goal

pub returns : goal.returns
returns c = done_without_rest c.args.self.now.rest c.is_none.result c.is_none.ensures
