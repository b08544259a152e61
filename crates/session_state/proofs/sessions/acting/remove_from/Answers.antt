use Rattle.std.proofs.Common.{sym, subst, ap, ◌∙◌, is_some}
use Rattle.session_state.specs.KeptSession.{AreKeyed, sessions_in}
use Rattle.session_state.proofs.EntryLemmas.{keyed_removed, lookup_of, removed_without}
use Rattle.session_state.proofs.sessions.acting.remove_from.Goals as goal

pub returns-clause-keyed : goal.returns-clause-keyed
returns-clause-keyed c =
    subst AreKeyed (sym c.shift_remove.ensures.entries) (keyed_removed c.args.client.now c.args.map.now.entries c.requires)

pub returns-clause-found : goal.returns-clause-found
returns-clause-found c = c.is_some.ensures ∙ ap is_some (c.shift_remove.ensures.value ∙ lookup_of c.args.client.now c.args.map.now.entries c.requires)

pub returns-clause-removed : goal.returns-clause-removed
returns-clause-removed c =
    ap sessions_in c.shift_remove.ensures.entries ∙ removed_without c.args.client.now c.args.map.now.entries c.requires c.get_index_of-place.ensures.unique
