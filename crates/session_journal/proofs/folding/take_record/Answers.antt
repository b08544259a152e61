use Rattle.std.proofs.Common.{IsTrue, Ok, ap, subst, sym, ◌∙◌}
use Rattle.session_codec.specs.HasSpelling.{fits_sessions, have_spelling}
use Rattle.session_codec.specs.KeepLaws.{changes_spelled_after}
use Rattle.session_journal.proofs.folding.take_record.Goals as goal

pub returns-clause-spelled : goal.returns-clause-spelled
returns-clause-spelled c = λ spelled.
    let has = subst (λ l. IsTrue (have_spelling c.args.form.format c.args.form.shards l)) (sym c.deref.ensures.value) c.in-Ok.ensures.spelled.has in
    subst (λ s. IsTrue (fits_sessions c.args.form.format c.args.form.shards s)) (sym (c.in_ok-fit.ensures.acted (ap Ok c.if-not-fit.false)))
    (changes_spelled_after c.args.form.format c.args.form.shards c.args.sessions.now c.deref.result.now spelled has (sym c.in_ok-fit.ensures.fits ∙ c.if-not-fit.false))
