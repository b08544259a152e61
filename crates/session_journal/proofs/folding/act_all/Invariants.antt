use Rattle.std.proofs.Common.{◌≡◌, drop}
use Rattle.topic_model.specs.Profile.{whole}
use Rattle.session_state.specs.KeptActing.{kept_acted_all}
use Rattle.session_state.specs.KeptFits.{kept_fit_all}
use Rattle.session_journal.proofs.folding.act_all.Given as goal

abbrev pub invariant-loop-change : goal.invariant-loop-change
invariant-loop-change l =
    (kept_fit_all whole l.fn.sessions l.changes ≡ kept_fit_all whole l.sessions (drop l.change-index l.changes))
    × (kept_acted_all l.changes l.fn.sessions ≡ kept_acted_all (drop l.change-index l.changes) l.sessions)
