use Rattle.shard_model.specs.laws.PatternLaws.{patterns_carried, path_carried}
use Rattle.shard_model.proofs.laws.patterns_are_carried.Goals as goal

pub returns-clause-patterns : goal.returns-clause-patterns
returns-clause-patterns c = patterns_carried

pub returns-clause-path : goal.returns-clause-path
returns-clause-path c = path_carried
