use Rattle.shard_fold.specs.FoldLaws.{manifest_is_first}
use Rattle.shard_fold.specs.ManifestLaws.{first_told}
use Rattle.shard_fold.proofs.laws.a_first_manifest.Goals as goal

pub returns-clause-same : goal.returns-clause-same
returns-clause-same c = manifest_is_first

pub returns-clause-told : goal.returns-clause-told
returns-clause-told c = first_told
