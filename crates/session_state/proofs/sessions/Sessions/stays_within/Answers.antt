use Rattle.std.proofs.Common.{◌||◌, ◌&&◌, ◌==◌, ◌++◌, ◌∷◌, [], not, nat_lt, length, ap, sym, ◌∙◌}
use Rattle.topic_model.specs.Profile.{whole}
use Rattle.session_state.specs.KeptSession.{KeptSessions, sessions_in}
use Rattle.session_state.specs.KeptFits.{kept_are_within, wide_count}
use Rattle.session_state.specs.WorkerLaws.{added_fits}
use Rattle.session_state.proofs.sessions.Sessions.stays_within.Goals as goal

pub returns : goal.returns
returns c =
    let s : KeptSessions = record { list = sessions_in c.self.inside.map.entries; next = c.self.inside.next_incarnation } in
    c.has_place_for.ensures
    ∙ ap (λ w. nat_lt (length c.args.self.now.list) 4096 && (not (w == 2048) || nat_lt (wide_count whole c.args.self.now.list) 256)) c.window.ensures
    ∙ ap (λ (t : KeptSessions). nat_lt (length t.list) 4096 && (not (c.args.session.now.window == 2048) || nat_lt (wide_count whole t.list) 256)) (sym c.self.view_is)
    ∙ sym (added_fits c.args.session.now s c.self.invariant.within c.facts.ensures.within)
    ∙ ap (λ (t : KeptSessions). kept_are_within whole (record t { list = t.list ++ c.args.session.now ∷ [] })) c.self.view_is
