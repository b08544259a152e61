use Rattle.mqtt_frame.proofs.PacketLemmas.{is_cut}
use Rattle.mqtt_frame.proofs.laws.framed_are_packets.Goals as goal

pub returns-clause-packets : goal.returns-clause-packets
returns-clause-packets c = λ limit stream bytes. (is_cut limit stream bytes).packets

pub returns-clause-all : goal.returns-clause-all
returns-clause-all c = λ limit stream bytes. (is_cut limit stream bytes).all
