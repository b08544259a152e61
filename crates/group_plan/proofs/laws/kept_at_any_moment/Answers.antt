use Rattle.std.proofs.Common.{refl}
use Rattle.group_plan.specs.StandLaws.{kept_are_stored}
use Rattle.group_plan.proofs.laws.kept_at_any_moment.Goals as goal

pub returns : goal.returns
returns c = λ list ops now. kept_are_stored ops list list now refl
