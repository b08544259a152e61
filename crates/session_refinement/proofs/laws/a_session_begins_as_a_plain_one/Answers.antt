use Rattle.session_refinement.specs.laws.KeepsLaws.{begun_keeps}
use Rattle.session_refinement.specs.laws.StandLaws.{begun_stands}
use Rattle.session_refinement.proofs.laws.a_session_begins_as_a_plain_one.Goals as goal

pub returns-clause-keeps : goal.returns-clause-keeps
returns-clause-keeps c = begun_keeps

pub returns-clause-stands : goal.returns-clause-stands
returns-clause-stands c = begun_stands
