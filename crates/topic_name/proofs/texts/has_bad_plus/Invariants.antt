use Rattle.std.proofs.Common.{◌≡◌}
use Rattle.std.specs.List.{list_any}
use Rattle.topic_model.specs.Texts.{is_bad_plus}
use Rattle.topic_name.specs.LevelsLeft.{levels_left}
use Rattle.topic_name.proofs.texts.has_bad_plus.Given as goal

-- the levels that were taken are no reason
abbrev pub invariant-loop-level : goal.invariant-loop-level
invariant-loop-level l =
    record {
      none_so_far : list_any is_bad_plus (levels_left l.level-iterator) ≡ list_any is_bad_plus (levels_left l.fn.levels);
      can_go_on : (goal.iterator-loop-level).can_next l.level-iterator × (goal.iterator-loop-level).is_finite l.level-iterator;
    }
