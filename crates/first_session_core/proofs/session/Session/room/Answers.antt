use Rattle.std.proofs.Common.{◌∙◌, ap, arith}
use Rattle.std.specs.Prelude.{sum_by}
use Rattle.first_session_terms.specs.declared.entry.Entry.{Entry}
use Rattle.first_session_terms.specs.Entry.{count1, count2}
use Rattle.first_session_core.proofs.session.Session.room.Goals as goal

pub returns : goal.returns
returns c =
    let first = c.total1.ensures.value ∙ ap (sum_by (λ (e : Entry). count1 e.kind)) c.deref.ensures.value in
    let second = c.total2.ensures.value ∙ ap (sum_by (λ (e : Entry). count2 e.kind)) c.deref-2.ensures.value in
    rw (← c.self.view_is) (omega (arith, first, second, c.saturating_sub.ensures))
