use Rattle.std.proofs.Common.{◌≡◌}
use Rattle.topic_model.specs.Matching.{levels_match}
use Rattle.topic_name.specs.LevelsLeft.{levels_left}
use Rattle.topic_name.proofs.matching.levels_match.Given as goal

-- the levels that were taken matched
abbrev pub invariant-loop-wanted : goal.invariant-loop-wanted
invariant-loop-wanted l =
    record {
      rest_decides : levels_match (levels_left l.filter) (levels_left l.topic) ≡ levels_match (levels_left l.initial.filter) (levels_left l.initial.topic);
      can_go_on : (goal.iterator-loop-wanted).can_next l.filter × (goal.iterator-loop-wanted).is_finite l.filter;
    }
