use Rattle.std.proofs.Common.{rules, Some, None, subst}
use Rattle.seq_tracks.specs.InOrder.{InOrder}
use Rattle.seq_tracks.specs.IdentifierLaws.{told_by_numbers}
use Rattle.seq_tracks.proofs.tracks.Tracks.seq_of.Goals as goal

-- what the other clause says tells the number
pub returns-in_err-seq-in-1-clause-exact : goal.returns-in_err-seq-in-1-clause-exact
returns-in_err-seq-in-1-clause-exact c =
    told_by_numbers c.args.self.now c.args.track c.args.id c.from_residual.result (subst InOrder c.self.view_is c.self.invariant.order) (λ n. search rules)

pub returns-in_err-seq-in-2-clause-exact : goal.returns-in_err-seq-in-2-clause-exact
returns-in_err-seq-in-2-clause-exact c =
    told_by_numbers c.args.self.now c.args.track c.args.id c.from_residual-in_err-seq-in-2.result (subst InOrder c.self.view_is c.self.invariant.order) (λ n. search rules)

pub returns-then-is_unfinished-clause-exact : goal.returns-then-is_unfinished-clause-exact
returns-then-is_unfinished-clause-exact c =
    told_by_numbers c.args.self.now c.args.track c.args.id (Some c.match-track.seq) (subst InOrder c.self.view_is c.self.invariant.order) (λ n. search rules)

pub returns-else-is_unfinished-clause-exact : goal.returns-else-is_unfinished-clause-exact
returns-else-is_unfinished-clause-exact c =
    told_by_numbers c.args.self.now c.args.track c.args.id None (subst InOrder c.self.view_is c.self.invariant.order) (λ n. search rules)
