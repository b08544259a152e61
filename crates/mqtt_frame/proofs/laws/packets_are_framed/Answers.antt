use Rattle.mqtt_frame.proofs.PacketLemmas.{packets_framed}
use Rattle.mqtt_frame.proofs.laws.packets_are_framed.Goals as goal

pub returns : goal.returns
returns c = packets_framed
