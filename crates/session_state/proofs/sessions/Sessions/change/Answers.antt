use Rattle.std.proofs.Common.{ap, ◌∙◌}
use Rattle.topic_model.specs.Profile.{whole}
use Rattle.session_state.specs.KeptSession.{KeptSessions, sessions_in}
use Rattle.session_state.specs.KeptActing.{change_of}
use Rattle.session_state.specs.KeptFits.{kept_fits}
use Rattle.session_state.specs.WorkerLaws.{within_after}
use Rattle.session_state.proofs.EntryLemmas.{fits_of_all}
use Rattle.session_state.proofs.sessions.Sessions.change.Goals as goal

pub returns-clause-fits : goal.returns-clause-fits
returns-clause-fits c =
    c.in_ok-fits.ensures.fits
    ∙ fits_of_all c.args.client.now c.args.effect.now c.self.inside.map.entries c.self.inside.next_incarnation c.self.invariant.keyed c.change_in.ensures.unique
    c.self.invariant.within c.requires
    ∙ ap (λ (s : KeptSessions). kept_fits whole s (change_of c.args.client.now c.args.effect.now)) c.self.view_is

pub invariant_of-self-2 : goal.invariant_of-self-2
invariant_of-self-2 c =
    let fits = c.in_ok-fits.ensures.fits
    ∙ fits_of_all c.args.client.now c.args.effect.now c.self.inside.map.entries c.self.inside.next_incarnation c.self.invariant.keyed c.change_in.ensures.unique
    c.self.invariant.within c.requires in
    record {
      keyed = c.change_in.ensures.keyed;
      within = within_after c.args.client.now c.args.effect.now (record { list = sessions_in c.self.inside.map.entries; next = c.self.inside.next_incarnation })
          (sessions_in c.change_in.new.map.entries) c.in_ok-fits.fits c.requires fits c.in_ok-fits.ensures.changed c.self.invariant.within;
    }
