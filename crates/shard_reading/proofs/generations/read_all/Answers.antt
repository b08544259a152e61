use Rattle.std.proofs.Common.{Err, ◌+◌, ◌∷◌, ◌∙◌, drop, slice_index_or, ap}
use Rattle.std.proofs.Math.ListN.{drop_of_length-le}
use Rattle.std.proofs.lemmas.Result.{err_from_is_err_and}
use Rattle.shard_disks.specs.Outline.{Outline}
use Rattle.shard_disks.specs.PlainDisks.{outline}
use Rattle.shard_fold.specs.Fold.{generation_told, opened}
use Rattle.shard_reading.specs.Steps.{records_in}
use Rattle.shard_reading.proofs.GenerationLemmas.{at_next, is_next, no_generation, one_sealed, through_all, through_first, through_looks, through_more, through_refused, why_stays}
use Rattle.shard_reading.proofs.generations.read_all.Goals as goal

pub returns-in_err-index-clause-exact : goal.returns-in_err-index-clause-exact
returns-in_err-index-clause-exact g c = λ told.
    let p = err_from_is_err_and c.from_residual.result c.from_residual.ensures.1 in rw (p.1, p.2)
    (why_stays c.in_err-index.field-0.0 (records_in (outline c.args.disks.now)) c.args.oldest
    (generation_told (opened c.args.oldest.slot c.args.oldest) c.args.oldest.slot (records_in (outline c.args.disks.now) c.args.oldest.slot)) c.args.later.now (c.in_err-index.ensures.exact told))

pub loop-cut-init : goal.loop-cut-init
loop-cut-init g c =
    through_first g.D.Disk.state c.args.disks.now c.read_oldest.new.disks c.args.oldest c.args.later.now (c.in_ok-index.index, c.in_ok-index.end) c.requires.known c.requires.row c.in_ok-index.ensures.looks c.in_ok-index.ensures.exact
    c.in_ok-index.ensures.reached c.in_ok-index.ensures.cuts

pub unreachable-requires : goal.unreachable-requires
unreachable-requires g c =
    let was = at_next g.D.Disk.state c.args.disks.now c.loop-cut.disks (c.args.oldest ∷ c.args.later.now) c.loop-cut.previous c.args.later.now c.loop-cut.cut-index c.loop-cut.index c.loop-cut.end c.loop-cut.invariant c.loop-cut-test.true in
    one_sealed c.loop-cut.previous (slice_index_or c.args.later.now c.loop-cut.cut-index no_generation) (drop (c.loop-cut.cut-index + 1) c.args.later.now) was.row c.in_default.is

pub read_later-requires-clause-known : goal.read_later-requires-clause-known
read_later-requires-clause-known g c =
    let was = at_next g.D.Disk.state c.args.disks.now c.loop-cut.disks (c.args.oldest ∷ c.args.later.now) c.loop-cut.previous c.args.later.now c.loop-cut.cut-index c.loop-cut.index c.loop-cut.end c.loop-cut.invariant c.loop-cut-test.true in
    (is_next g.D.Disk.state c.args.disks.now c.loop-cut.disks (c.args.oldest ∷ c.args.later.now) c.loop-cut.previous (slice_index_or c.args.later.now c.loop-cut.cut-index no_generation) (drop (c.loop-cut.cut-index + 1) c.args.later.now) c.loop-cut.index c.loop-cut.end was).known

pub read_later-requires-clause-rests : goal.read_later-requires-clause-rests
read_later-requires-clause-rests g c = ap (λ (o : Outline). o.doubted) c.loop-cut.invariant.read.stays ∙ c.requires.rests

pub read_later-requires-clause-number : goal.read_later-requires-clause-number
read_later-requires-clause-number g c =
    let was = at_next g.D.Disk.state c.args.disks.now c.loop-cut.disks (c.args.oldest ∷ c.args.later.now) c.loop-cut.previous c.args.later.now c.loop-cut.cut-index c.loop-cut.index c.loop-cut.end c.loop-cut.invariant c.loop-cut-test.true in
    (is_next g.D.Disk.state c.args.disks.now c.loop-cut.disks (c.args.oldest ∷ c.args.later.now) c.loop-cut.previous (slice_index_or c.args.later.now c.loop-cut.cut-index no_generation) (drop (c.loop-cut.cut-index + 1) c.args.later.now) c.loop-cut.index c.loop-cut.end was).number

pub read_later-requires-clause-few : goal.read_later-requires-clause-few
read_later-requires-clause-few g c = c.loop-cut.invariant.reached.few

pub returns-in_err-end-clause-exact : goal.returns-in_err-end-clause-exact
returns-in_err-end-clause-exact g c =
    let was = at_next g.D.Disk.state c.args.disks.now c.loop-cut.disks (c.args.oldest ∷ c.args.later.now) c.loop-cut.previous c.args.later.now c.loop-cut.cut-index c.loop-cut.index c.loop-cut.end c.loop-cut.invariant c.loop-cut-test.true in
    let p = err_from_is_err_and c.from_residual-in_err-end.result c.from_residual-in_err-end.ensures.1 in rw (p.1, p.2)
    (through_refused g.D.Disk.state c.args.disks.now c.loop-cut.disks (c.args.oldest ∷ c.args.later.now) c.loop-cut.previous (slice_index_or c.args.later.now c.loop-cut.cut-index no_generation) (drop (c.loop-cut.cut-index + 1) c.args.later.now) c.loop-cut.index c.loop-cut.end c.in-Some.sealed c.in_err-end.field-0.0 was c.in-Some.is
    c.in_err-end.ensures.exact)

pub returns-in_err-end-clause-looks : goal.returns-in_err-end-clause-looks
returns-in_err-end-clause-looks g c =
    let p = err_from_is_err_and c.from_residual-in_err-end.result c.from_residual-in_err-end.ensures.1 in rw (p.1, p.2)
    (through_looks g.D.Disk.state c.args.disks.now c.loop-cut.disks c.read_later.new.disks (c.args.oldest ∷ c.args.later.now) c.loop-cut.previous (drop c.loop-cut.cut-index c.args.later.now)
    c.loop-cut.index c.loop-cut.end (Err c.in_err-end.field-0.0) c.loop-cut.invariant (record { read = c.in_err-end.ensures.looks.read; cause = c.in_err-end.ensures.looks.cause }))

pub loop-cut-preserved : goal.loop-cut-preserved
loop-cut-preserved g c =
    let was = at_next g.D.Disk.state c.args.disks.now c.loop-cut.disks (c.args.oldest ∷ c.args.later.now) c.loop-cut.previous c.args.later.now c.loop-cut.cut-index c.loop-cut.index c.loop-cut.end c.loop-cut.invariant c.loop-cut-test.true in
    through_more g.D.Disk.state c.args.disks.now c.loop-cut.disks c.read_later.new.disks (c.args.oldest ∷ c.args.later.now) c.loop-cut.previous (slice_index_or c.args.later.now c.loop-cut.cut-index no_generation)
    (drop (c.loop-cut.cut-index + 1) c.args.later.now) c.loop-cut.index c.read_later.new.index c.loop-cut.end c.in_ok-end.end c.in-Some.sealed was c.in-Some.is c.in_ok-end.ensures.looks
    c.in_ok-end.ensures.exact c.in_ok-end.ensures.reached c.in_ok-end.ensures.cuts

pub returns-clause-exact : goal.returns-clause-exact
returns-clause-exact g c = (through_all g.D.Disk.state c.args.disks.now c.loop-cut.disks (c.args.oldest ∷ c.args.later.now) c.loop-cut.previous (drop c.loop-cut.cut-index c.args.later.now) c.loop-cut.index c.loop-cut.end c.loop-cut.invariant (drop_of_length-le c.args.later.now c.loop-cut-test.false)).0

pub returns-clause-reached : goal.returns-clause-reached
returns-clause-reached g c = (through_all g.D.Disk.state c.args.disks.now c.loop-cut.disks (c.args.oldest ∷ c.args.later.now) c.loop-cut.previous (drop c.loop-cut.cut-index c.args.later.now) c.loop-cut.index c.loop-cut.end c.loop-cut.invariant (drop_of_length-le c.args.later.now c.loop-cut-test.false)).1

pub returns-clause-cuts : goal.returns-clause-cuts
returns-clause-cuts g c = (through_all g.D.Disk.state c.args.disks.now c.loop-cut.disks (c.args.oldest ∷ c.args.later.now) c.loop-cut.previous (drop c.loop-cut.cut-index c.args.later.now) c.loop-cut.index c.loop-cut.end c.loop-cut.invariant (drop_of_length-le c.args.later.now c.loop-cut-test.false)).2

pub returns-clause-looks : goal.returns-clause-looks
returns-clause-looks g c = record { read = c.loop-cut.invariant.read; cause = c.loop-cut.invariant.faults }
