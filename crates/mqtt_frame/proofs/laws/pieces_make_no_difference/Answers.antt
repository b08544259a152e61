use Rattle.mqtt_frame.proofs.FedLemmas.{all_from_nothing}
use Rattle.mqtt_frame.proofs.laws.pieces_make_no_difference.Goals as goal

pub returns : goal.returns
returns c = all_from_nothing
