use Rattle.std.proofs.Common.{◌≡◌, ℕ, Bool, true, false, List, if◌then◌else◌, refl, ap, ◌∙◌}
use Rattle.topic_model.specs.Profile.{whole}
use Rattle.session_state.specs.declared.change.Effect.TheVariants.{Ended}
use Rattle.session_state.specs.KeptSession.{KeptSessions, sessions_in}
use Rattle.session_state.specs.KeptActing.{acted_on, change_of, without_session}
use Rattle.session_state.specs.KeptFits.{kept_are_within, kept_fits}
use Rattle.session_state.specs.WorkerLaws.{ended_fits, ended_list, ended_within}
use Rattle.session_state.proofs.sessions.Sessions.end.Goals as goal

if_list : (s : KeptSessions) (client : List ℕ) (b : Bool) →
    record s { list = if b then without_session client s.list else s.list } ≡ (if b then acted_on client Ended s else s)
if_list s client true = refl
if_list s client false = refl

pub invariant_of-self : goal.invariant_of-self
invariant_of-self c =
    let s : KeptSessions = record { list = sessions_in c.self.inside.map.entries; next = c.self.inside.next_incarnation } in
    record {
      keyed = c.remove_from-ended.ensures.keyed;
      within = ap (λ l. kept_are_within whole (record s { list = l })) c.remove_from-ended.ensures.removed ∙ ended_within c.args.client.now s c.self.invariant.within;
    }

pub returns-clause-fits : goal.returns-clause-fits
returns-clause-fits c =
    let s : KeptSessions = record { list = sessions_in c.self.inside.map.entries; next = c.self.inside.next_incarnation } in
    c.remove_from-ended.ensures.found ∙ ended_fits c.args.client.now s c.self.invariant.within
    ∙ ap (λ (s : KeptSessions). kept_fits whole s (change_of c.args.client.now Ended)) c.self.view_is

pub returns-clause-changed : goal.returns-clause-changed
returns-clause-changed c =
    let s : KeptSessions = record { list = sessions_in c.self.inside.map.entries; next = c.self.inside.next_incarnation } in
    ap (λ l. record s { list = l })
    (c.remove_from-ended.ensures.removed ∙ ended_list c.args.client.now s c.remove_from-ended.result c.remove_from-ended.ensures.found)
    ∙ if_list s c.args.client.now c.remove_from-ended.result
    ∙ ap (λ (s : KeptSessions). if c.remove_from-ended.result then acted_on c.args.client.now Ended s else s) c.self.view_is
