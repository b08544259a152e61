use Rattle.std.proofs.Common.{length, ap, arith}
use Rattle.first_session_core.proofs.session.Session.issued2.Goals as goal

pub returns-clause-small : goal.returns-clause-small
returns-clause-small c =
    let items = c.self.inside.issued in omega (arith, c.total2.ensures.small, ap length c.deref.ensures.value, items.ok.0, items.ok.1, items.small)
