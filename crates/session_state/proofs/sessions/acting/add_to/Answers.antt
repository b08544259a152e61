use Rattle.std.proofs.Common.{sym, subst, ap, ◌∙◌, bytes_eq}
use Rattle.indexmap.proofs.CallerLemmas.{insert_entry-new}
use Rattle.session_state.specs.KeptSession.{AreKeyed, sessions_in}
use Rattle.session_state.proofs.EntryLemmas.{keyed_more, lookup_of, is_none_is, sessions_more}
use Rattle.session_state.proofs.sessions.acting.add_to.Goals as goal

pub returns-clause-keyed : goal.returns-clause-keyed
returns-clause-keyed c =
    let none = lookup_of c.args.key c.args.map.now.entries c.requires.keyed ∙ is_none_is _ c.requires.absent in
    subst AreKeyed (sym (c.in_ok-insert.ensures.entries ∙ insert_entry-new bytes_eq c.args.map.now c.args.key c.args.session none))
    (keyed_more c.args.map.now.entries c.args.key c.args.session c.requires.keyed c.requires.client)

pub returns-clause-added : goal.returns-clause-added
returns-clause-added c =
    let none = lookup_of c.args.key c.args.map.now.entries c.requires.keyed ∙ is_none_is _ c.requires.absent in
    ap sessions_in (c.in_ok-insert.ensures.entries ∙ insert_entry-new bytes_eq c.args.map.now c.args.key c.args.session none)
    ∙ sessions_more c.args.map.now.entries c.args.key c.args.session
