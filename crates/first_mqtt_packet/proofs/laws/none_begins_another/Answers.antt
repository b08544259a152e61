use Rattle.first_mqtt_packet.proofs.Prefixes as prefixes
use Rattle.first_mqtt_packet.proofs.laws.none_begins_another.Goals as goal

pub returns : goal.returns
returns c = prefixes.none_begins_another
