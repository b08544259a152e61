use Rattle.std.proofs.Common.{◌≡◌}
use Rattle.topic_model.specs.Texts.{has_bad_hash}
use Rattle.topic_name.specs.LevelsLeft.{levels_left}
use Rattle.topic_name.proofs.texts.has_bad_hash.Given as goal

-- the levels that were taken are no reason
abbrev pub invariant-loop-level : goal.invariant-loop-level
invariant-loop-level l =
    record {
      none_so_far : has_bad_hash (levels_left l.levels) ≡ has_bad_hash (levels_left l.initial.levels);
      can_go_on : (goal.iterator-loop-level).can_next l.levels × (goal.iterator-loop-level).is_finite l.levels;
    }
