use Rattle.record_codec.specs.Bounds.{opening_short, manifest_short, generation_short}
use Rattle.record_codec.proofs.laws.records_are_short.Goals as goal

pub returns-clause-opening : goal.returns-clause-opening
returns-clause-opening c = opening_short

pub returns-clause-manifest : goal.returns-clause-manifest
returns-clause-manifest c = manifest_short

pub returns-clause-generation : goal.returns-clause-generation
returns-clause-generation c = generation_short
