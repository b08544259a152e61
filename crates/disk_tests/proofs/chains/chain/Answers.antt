use Rattle.std.proofs.Common.{ℕ, List, [], ◌∷◌, ◌++◌, ◌∙◌}
use Rattle.outside.specs.Along.{WithinBoth, keeps_and, keeps_weaker}
use Rattle.pair_log.specs.Epochs.{next_epoch, read_pair}
use Rattle.pair_log.specs.Mounted.{AreMounting}
use Rattle.pair_log.specs.PlainPair.{Told}
use Rattle.disk_tests.specs.Chain.{IsOneOf, chain_lists, with_epoch}
use Rattle.disk_tests.proofs.ChainLemmas.{first_lists, mount_lists, second_lists, told_by_sides}
use Rattle.disk_tests.proofs.chains.chain.Goals as goal

pub returns-in-Ok : goal.returns-in-Ok
returns-in-Ok g c = λ first_told second_told.
    let state = g.D.Disk.state in
    let within = WithinBoth state in
    let snapshot = c.args.snapshot.now in
    let added = c.args.entry.now in
    let pair = c.in-Ok.pair in
    let first_pair = c.commit_and_rewrite.new.pair in
    let one = next_epoch pair.epoch in
    let two = next_epoch first_pair.epoch in
    let before = read_pair (state c.args.first).seen (state c.args.second).seen in
    let yes = c.if-not-commit_and_rewrite.false in
    let done = c.if-not-commit_and_rewrite-2.false in
    let told : Told state pair = told_by_sides state pair.side pair.active.disk pair.standby.disk (c.in-Ok.ensures.first_tells ∙ first_told) (c.in-Ok.ensures.second_tells ∙ second_told) in
    let P : List ℕ × List ℕ → Type 0 = λ images. IsOneOf (chain_lists before snapshot added one two) (read_pair images.0 images.1) in (
      one,
      two,
      keeps_and within P _ _ _ _ _ _
          (keeps_and within P _ _ _ _ _ _
          (keeps_weaker within (AreMounting (state c.args.first) (state c.args.second) snapshot) P _ _ _ _
          (mount_lists (state c.args.first) (state c.args.second) snapshot added one two c.requires.first_alone c.requires.second_alone)
          (c.in-Ok.ensures.any_moment first_told second_told))
          (keeps_weaker within (λ images. IsOneOf (pair.active.payloads ∷ (pair.active.payloads ++ added ∷ []) ∷ (with_epoch one snapshot ∷ []) ∷ []) (read_pair images.0 images.1)) P _ _ _ _
          (λ images e. first_lists (state c.args.first) (state c.args.second) snapshot added one two pair.active.payloads (read_pair images.0 images.1) (c.in-Ok.ensures.list first_told second_told) e)
          (c.commit_and_rewrite.ensures.moments yes told)))
          (keeps_weaker within (λ images. IsOneOf (first_pair.active.payloads ∷ (first_pair.active.payloads ++ added ∷ []) ∷ (with_epoch two snapshot ∷ []) ∷ []) (read_pair images.0 images.1)) P _ _ _ _
          (λ images e. second_lists (state c.args.first) (state c.args.second) snapshot added one two first_pair.active.payloads (read_pair images.0 images.1) (c.commit_and_rewrite.ensures.list yes told) e)
          (c.commit_and_rewrite-in-Ok.ensures.moments done (c.commit_and_rewrite.ensures.told yes told))),
    )
