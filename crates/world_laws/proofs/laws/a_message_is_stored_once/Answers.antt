use Rattle.world_laws.specs.laws.AlwaysLaws.{always_awaited, stored_once}
use Rattle.world_laws.proofs.laws.a_message_is_stored_once.Goals as goal

pub returns-clause-awaited : goal.returns-clause-awaited
returns-clause-awaited c = always_awaited

pub returns-clause-no_other : goal.returns-clause-no_other
returns-clause-no_other c = stored_once
