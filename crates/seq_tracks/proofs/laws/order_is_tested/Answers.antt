use Rattle.seq_tracks.specs.OrderLaws.{in_order-from_test, test-from_in_order}
use Rattle.seq_tracks.proofs.laws.order_is_tested.Goals as goal

pub returns : goal.returns
returns c t = (in_order-from_test t, test-from_in_order t)
