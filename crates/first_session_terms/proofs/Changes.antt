-- Lists of changes one after the other.
use Rattle.std.proofs.Common.{◌≡◌, List, [], ◌∷◌, ◌++◌, refl}
use Rattle.first_session_terms.specs.PlainSession.{PlainSession}
use Rattle.first_session_terms.specs.Change.{Change, act, act_all}

pub act_all-append : (sessions : List PlainSession) (first then_more : List Change) → act_all sessions (first ++ then_more) ≡ act_all (act_all sessions first) then_more
act_all-append sessions [] then_more = refl
act_all-append sessions (change ∷ changes) then_more = act_all-append (act sessions change) changes then_more
