use Rattle.std.proofs.Common.{length}
use Rattle.first_topic_name.proofs.filter.+match_levels.Given as goal

abbrev pub decreases-match_levels : goal.decreases-match_levels
decreases-match_levels l = length l.filter.now
