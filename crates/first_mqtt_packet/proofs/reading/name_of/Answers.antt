-- Printable bytes are text, so they are read as text.
use Rattle.first_mqtt_packet.proofs.Texts.{text_is_utf8}
use Rattle.first_mqtt_packet.proofs.reading.name_of.Goals as goal

pub unreachable-requires : goal.unreachable-requires
unreachable-requires c = absurd (c.in-Err.ensures.cases.0 (text_is_utf8 c.args.text.now c.requires))
