use Rattle.session_model.specs.laws.DoneLaws.{complete_is_done, next_is_not}
use Rattle.session_model.proofs.laws.complete_is_the_greatest.Goals as goal

pub returns-clause-done : goal.returns-clause-done
returns-clause-done c = complete_is_done

pub returns-clause-next : goal.returns-clause-next
returns-clause-next c = next_is_not
