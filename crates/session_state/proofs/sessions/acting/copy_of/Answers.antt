use Rattle.std.proofs.Common.{◌++◌, sym, ap, ◌∙◌}
use Rattle.session_state.specs.KeptSession.{sessions_in}
use Rattle.session_state.proofs.EntryLemmas.{none_before}
use Rattle.session_state.proofs.sessions.acting.copy_of.Goals as goal

pub add_copy-requires-clause-absent : goal.add_copy-requires-clause-absent
add_copy-requires-clause-absent c =
    let so_far = sessions_in c.loop-session.copied.entries in
    none_before so_far c.next.new.self c.in-Some.session.now c.args.map.now.entries c.requires c.len.ensures.unique
    (sym (ap (λ l. so_far ++ l) (sym c.in-Some.ensures.steps) ∙ c.loop-session.invariant.1))
