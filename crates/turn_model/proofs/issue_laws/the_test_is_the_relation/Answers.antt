use Rattle.turn_model.specs.laws.RisingLaws.{wanted_ascends}
use Rattle.turn_model.specs.laws.MayIssueLaws.{test_relates, related_passes, messages_are}
use Rattle.turn_model.proofs.issue_laws.the_test_is_the_relation.Goals as goal

pub returns-clause-ascend : goal.returns-clause-ascend
returns-clause-ascend c = wanted_ascends

pub returns-clause-passes : goal.returns-clause-passes
returns-clause-passes c = λ profile i b is e. test_relates profile i b (wanted_ascends i is) e

pub returns-clause-if_related : goal.returns-clause-if_related
returns-clause-if_related c = λ profile i b ws is m. related_passes profile i b ws (wanted_ascends i is) m

pub returns-clause-messages : goal.returns-clause-messages
returns-clause-messages c = λ profile i b ws is m. messages_are profile i b ws (wanted_ascends i is) m
