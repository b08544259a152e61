use Rattle.turn_model.specs.laws.StepLaws.{packet_changes, packet_leaves}
use Rattle.turn_model.proofs.laws.a_packet_keeps_to_its_session.Goals as goal

pub returns-clause-own : goal.returns-clause-own
returns-clause-own c = packet_changes

pub returns-clause-others : goal.returns-clause-others
returns-clause-others c = packet_leaves
