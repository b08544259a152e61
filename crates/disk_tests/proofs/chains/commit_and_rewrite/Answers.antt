use Rattle.std.proofs.Common.{ℕ, List, [], ◌∷◌, ◌++◌, subst}
use Rattle.outside.specs.Along.{WithinBoth, keeps_and, keeps_weaker}
use Rattle.pair_log.specs.Epochs.{next_epoch, read_pair}
use Rattle.pair_log.specs.PlainPair.{EachMoment, IsEither}
use Rattle.disk_tests.specs.Chain.{IsOneOf, with_epoch}
use Rattle.disk_tests.proofs.ChainLemmas.{first_two, last_two}
use Rattle.disk_tests.proofs.chains.commit_and_rewrite.Goals as goal

pub returns-clause-moments : goal.returns-clause-moments
returns-clause-moments g c = λ done told.
    let old = c.args.pair.now in
    let before = old.active.payloads in
    let middle = before ++ c.args.entry.now ∷ [] in
    let after : List (List ℕ) = with_epoch (next_epoch old.epoch) c.args.snapshot.now ∷ [] in
    let committed = c.if-not-commit_one.ensures in
    let yes = c.if-not-commit_one.false in
    let told_then = c.commit_one.ensures.told yes told in
    let rewritten = subst (λ l. EachMoment g.D.Disk.state c.commit_one.new.pair c.rewrite_one.new.pair (IsEither l after)) (c.commit_one.ensures.list yes told)
    (subst (λ n. EachMoment g.D.Disk.state c.commit_one.new.pair c.rewrite_one.new.pair (IsEither c.commit_one.new.pair.active.payloads (with_epoch (next_epoch n) c.args.snapshot.now ∷ [])))
    (c.commit_one.ensures.epoch yes) (c.rewrite_one.ensures.moments done)) in
    keeps_and (WithinBoth g.D.Disk.state) (λ images. IsOneOf (before ∷ middle ∷ after ∷ []) (read_pair images.0 images.1)) _ _ _ _ _ _
    (keeps_weaker (WithinBoth g.D.Disk.state) (λ images. IsEither before middle (read_pair images.0 images.1)) _ _ _ _ _
    (λ images e. first_two before middle after (read_pair images.0 images.1) e) (c.commit_one.ensures.moments yes told))
    (keeps_weaker (WithinBoth g.D.Disk.state) (λ images. IsEither middle after (read_pair images.0 images.1)) _ _ _ _ _
    (λ images e. last_two before middle after (read_pair images.0 images.1) e) (rewritten told_then))
