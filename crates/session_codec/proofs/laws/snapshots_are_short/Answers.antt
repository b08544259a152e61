use Rattle.session_codec.specs.Bounds.{snapshot_long}
use Rattle.session_codec.specs.HeldBounds.{are_bounded}
use Rattle.session_codec.proofs.laws.snapshots_are_short.Goals as goal

pub returns : goal.returns
returns c = λ shards workers worker s few has. snapshot_long 64 shards workers worker s (are_bounded shards workers worker s few has)
