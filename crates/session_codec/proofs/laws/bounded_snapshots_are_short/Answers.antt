use Rattle.std.proofs.Common.{refl, arith}
use Rattle.session_codec.specs.Bounds.{session_long_by, snapshot_long}
use Rattle.session_codec.proofs.laws.bounded_snapshots_are_short.Goals as goal

pub returns-clause-narrow : goal.returns-clause-narrow
returns-clause-narrow c = λ m b is. session_long_by m 512 131408 b is refl

pub returns-clause-wide : goal.returns-clause-wide
returns-clause-wide c = λ m b is. session_long_by m 2048 268112 b is refl

pub returns-clause-snapshot : goal.returns-clause-snapshot
returns-clause-snapshot c = λ shards workers worker s b. let long = snapshot_long 0 shards workers worker s b in omega arith
