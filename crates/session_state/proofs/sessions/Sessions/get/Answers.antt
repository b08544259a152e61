use Rattle.std.proofs.Common.{◌∙◌, ap}
use Rattle.session_state.specs.KeptSession.{KeptSessions, session_of}
use Rattle.session_state.proofs.EntryLemmas.{lookup_of}
use Rattle.session_state.proofs.sessions.Sessions.get.Goals as goal

pub returns : goal.returns
returns c =
    c.get.ensures.value
    ∙ lookup_of c.args.client.now c.self.inside.map.entries c.self.invariant.keyed
    ∙ ap (λ (s : KeptSessions). session_of c.args.client.now s) c.self.view_is
