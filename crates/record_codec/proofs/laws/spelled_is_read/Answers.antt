use Rattle.record_codec.specs.RecordForms.{group_whole, opening_whole, manifest_whole}
use Rattle.record_codec.specs.ExactLaws.{read_again}
use Rattle.record_codec.proofs.laws.spelled_is_read.Goals as goal

pub returns-clause-group : goal.returns-clause-group
returns-clause-group c = read_again group_whole

pub returns-clause-opening : goal.returns-clause-opening
returns-clause-opening c = read_again opening_whole

pub returns-clause-manifest : goal.returns-clause-manifest
returns-clause-manifest c = read_again manifest_whole
