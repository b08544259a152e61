-- Changes one after the other: those of two lists are those of the first and then those of the second.
use Rattle.std.proofs.Common.{◌≡◌, Bool, true, false, ◌&&◌, List, [], ◌∷◌, ◌++◌, refl, ap, ◌∙◌}
use Rattle.topic_model.specs.Profile.{Profile}
use Rattle.session_model.specs.PlainSession.{Sessions}
use Rattle.session_model.specs.Change.{Change}
use Rattle.session_model.specs.Acting.{act_one, act_all}
use Rattle.session_model.specs.FitsSession.{change_fits, changes_fit}

pub act_both : (sessions : Sessions) (first more : List Change) →
    act_all sessions (first ++ more) ≡ act_all (act_all sessions first) more
act_both sessions [] more = refl
act_both sessions (c ∷ first) more = act_both (act_one sessions c) first more

and_joined : (a b c : Bool) → (a && (b && c)) ≡ ((a && b) && c)
and_joined false b c = refl
and_joined true b c = refl

pub fit_both : (profile : Profile) (sessions : Sessions) (first more : List Change) →
    changes_fit profile sessions (first ++ more)
    ≡ (changes_fit profile sessions first && changes_fit profile (act_all sessions first) more)
fit_both profile sessions [] more = refl
fit_both profile sessions (c ∷ first) more =
    let rest = act_all (act_one sessions c) first in
    ap (λ b. change_fits profile sessions c && b) (fit_both profile (act_one sessions c) first more)
    ∙ and_joined (change_fits profile sessions c) (changes_fit profile (act_one sessions c) first)
    (changes_fit profile rest more)
