use Rattle.mqtt_packet.specs.FrameLaws.{spelled_is_read}
use Rattle.mqtt_packet.specs.VersionLaws.{spelled_is_this_version}
use Rattle.mqtt_packet.proofs.laws.spelled_is_read.Goals as goal

pub returns-clause-packet : goal.returns-clause-packet
returns-clause-packet c = spelled_is_read

pub returns-clause-version : goal.returns-clause-version
returns-clause-version c = spelled_is_this_version
