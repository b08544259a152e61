use Rattle.record_codec.specs.RecordForms.{group_whole, opening_whole, manifest_whole}
use Rattle.record_codec.specs.ExactLaws.{was_spelled}
use Rattle.record_codec.proofs.laws.read_was_spelled.Goals as goal

pub returns-clause-group : goal.returns-clause-group
returns-clause-group c = was_spelled group_whole

pub returns-clause-opening : goal.returns-clause-opening
returns-clause-opening c = was_spelled opening_whole

pub returns-clause-manifest : goal.returns-clause-manifest
returns-clause-manifest c = was_spelled manifest_whole
