use Rattle.std.proofs.Common.{Some, None, false, sym, subst, ◌∙◌}
use Rattle.session_state.specs.KeptSession.{AreKeyed}
use Rattle.session_state.proofs.EntryLemmas.{change_made, fits_found, on_err, keyed_written, same_client}
use Rattle.session_state.proofs.sessions.acting.change_in.Goals as goal

pub returns-in_default-clause-fits : goal.returns-in_default-clause-fits
returns-in_default-clause-fits c = fits_found c.args.effect.now c.args.client.now c.args.map.now.entries None c.requires c.in_default.ensures.value

pub returns-in_err-fits-clause-keyed : goal.returns-in_err-fits-clause-keyed
returns-in_err-fits-clause-keyed c =
    subst AreKeyed (sym (c.get_mut.follows.holds c.change.new.self).0)
    (keyed_written c.args.client.now c.args.map.now.entries c.in-Some.session.now c.change.new.self c.requires (sym c.in-Some.ensures.value)
    (same_client c.args.effect.now c.in-Some.session.now c.change.new.self false c.in_err-fits.ensures.memory))

pub returns-in_err-fits-clause-memory : goal.returns-in_err-fits-clause-memory
returns-in_err-fits-clause-memory c =
    on_err c.from_residual.result
    (change_made c.args.client.now c.args.effect.now c.args.map.now.entries (c.get_mut.follows.lender c.change.new.self).entries c.in-Some.session.now c.change.new.self
    false c.requires c.in-Some.ensures.unique (sym c.in-Some.ensures.value) (c.get_mut.follows.holds c.change.new.self).0 c.in_err-fits.ensures.memory)

pub returns-clause-keyed : goal.returns-clause-keyed
returns-clause-keyed c =
    subst AreKeyed (sym (c.get_mut.follows.holds c.change.new.self).0)
    (keyed_written c.args.client.now c.args.map.now.entries c.in-Some.session.now c.change.new.self c.requires (sym c.in-Some.ensures.value)
    (same_client c.args.effect.now c.in-Some.session.now c.change.new.self c.in_ok-fits.fits c.in_ok-fits.ensures.changed))

pub returns-clause-fits : goal.returns-clause-fits
returns-clause-fits c =
    c.in_ok-fits.ensures.fits
    ∙ fits_found c.args.effect.now c.args.client.now c.args.map.now.entries (Some c.in-Some.session.now) c.requires c.in-Some.ensures.value

pub returns-clause-changed : goal.returns-clause-changed
returns-clause-changed c =
    change_made c.args.client.now c.args.effect.now c.args.map.now.entries (c.get_mut.follows.lender c.change.new.self).entries c.in-Some.session.now c.change.new.self
    c.in_ok-fits.fits c.requires c.in-Some.ensures.unique (sym c.in-Some.ensures.value) (c.get_mut.follows.holds c.change.new.self).0 c.in_ok-fits.ensures.changed
