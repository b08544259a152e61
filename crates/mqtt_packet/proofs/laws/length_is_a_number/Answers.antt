use Rattle.mqtt_packet.specs.SizeLaws.{body_sized, packet_sized}
use Rattle.mqtt_packet.proofs.laws.length_is_a_number.Goals as goal

pub returns-clause-body : goal.returns-clause-body
returns-clause-body c packet fits = body_sized packet fits

pub returns-clause-whole : goal.returns-clause-whole
returns-clause-whole c packet fits = packet_sized packet fits
