use Rattle.std.proofs.Common.{subst, sym, ◌∙◌}
use Rattle.session_journal.specs.FoldLaws.{opened_known, opened_none, opened_unknown}
use Rattle.session_journal.specs.Giving.{Gives}
use Rattle.session_journal.proofs.folding.open.Goals as goal

pub returns-in-None-clause-exact : goal.returns-in-None-clause-exact
returns-in-None-clause-exact c = opened_none c.args.asked c.args.bytes.now (sym c.in-None.ensures)

pub returns-then-not-is_known-clause-exact : goal.returns-then-not-is_known-clause-exact
returns-then-not-is_known-clause-exact c =
    opened_unknown c.args.asked c.args.bytes.now c.in-Some.format (sym c.in-Some.ensures) (sym c.is_known.ensures ∙ c.if-not-is_known.true)

pub returns-else-not-is_known-clause-exact : goal.returns-else-not-is_known-clause-exact
returns-else-not-is_known-clause-exact c =
    subst (Gives (λ s. s) c.open_as.result) (sym (opened_known c.args.asked c.args.bytes.now c.in-Some.format (sym c.in-Some.ensures) (sym c.is_known.ensures ∙ c.if-not-is_known.false)))
    c.open_as.ensures.exact
