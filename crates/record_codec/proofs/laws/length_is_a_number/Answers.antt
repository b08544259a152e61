use Rattle.record_codec.specs.SizeLaws.{op_sized, stores_counted, group_sized, opening_sized, manifest_sized}
use Rattle.record_codec.proofs.laws.length_is_a_number.Goals as goal

pub returns-clause-op : goal.returns-clause-op
returns-clause-op c = op_sized

pub returns-clause-group : goal.returns-clause-group
returns-clause-group c = group_sized

pub returns-clause-opening : goal.returns-clause-opening
returns-clause-opening c = opening_sized

pub returns-clause-manifest : goal.returns-clause-manifest
returns-clause-manifest c = manifest_sized

pub returns-clause-stores : goal.returns-clause-stores
returns-clause-stores c = stores_counted
