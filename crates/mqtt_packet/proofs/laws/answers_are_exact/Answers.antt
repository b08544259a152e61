use Rattle.mqtt_packet.specs.ExactLaws.{ok_means, ok_if, malformed_means, malformed_if, protocol_means, protocol_if, version_means, version_if}
use Rattle.mqtt_packet.proofs.laws.answers_are_exact.Goals as goal

pub returns-clause-packet : goal.returns-clause-packet
returns-clause-packet c = ok_means

pub returns-clause-if_packet : goal.returns-clause-if_packet
returns-clause-if_packet c = ok_if

pub returns-clause-malformed : goal.returns-clause-malformed
returns-clause-malformed c = malformed_means

pub returns-clause-if_malformed : goal.returns-clause-if_malformed
returns-clause-if_malformed c = malformed_if

pub returns-clause-rule : goal.returns-clause-rule
returns-clause-rule c = protocol_means

pub returns-clause-if_rule : goal.returns-clause-if_rule
returns-clause-if_rule c = protocol_if

pub returns-clause-version : goal.returns-clause-version
returns-clause-version c = version_means

pub returns-clause-if_version : goal.returns-clause-if_version
returns-clause-if_version c = version_if
