use Rattle.record_codec.specs.RecordForms.{group_whole, opening_whole, manifest_whole}
use Rattle.record_codec.specs.ExactLaws.{one_value}
use Rattle.record_codec.proofs.laws.spellings_differ.Goals as goal

pub returns-clause-group : goal.returns-clause-group
returns-clause-group c = one_value group_whole

pub returns-clause-opening : goal.returns-clause-opening
returns-clause-opening c = one_value opening_whole

pub returns-clause-manifest : goal.returns-clause-manifest
returns-clause-manifest c = one_value manifest_whole
