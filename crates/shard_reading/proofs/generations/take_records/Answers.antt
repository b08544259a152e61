use Rattle.std.proofs.Common.{◌<◌, Err, length, arith}
use Rattle.std.proofs.lemmas.Result.{err_from_is_err_and}
use Rattle.shard_disks.specs.PlainDisks.{outline}
use Rattle.shard_reading.specs.Steps.{records_in}
use Rattle.shard_reading.proofs.LookLemmas.{rest_images}
use Rattle.shard_reading.proofs.RecordLemmas.{none_taken, one_refused, taken_looks, taken_more}
use Rattle.shard_reading.proofs.generations.take_records.Goals as goal

pub loop-number-init : goal.loop-number-init
loop-number-init g c =
    let facts = c.doubted-facts.ensures in
    none_taken g.D.Disk.state c.args.disks.now c.args.slot c.args.place c.args.index.now (rest_images g.D.Disk.state c.args.disks.now c.requires.rests facts.images facts.rests) c.requires.room c.requires.few

pub returns-in_err-at-clause-exact : goal.returns-in_err-at-clause-exact
returns-in_err-at-clause-exact g c =
    let within : c.loop-number.number < length (records_in (outline c.args.disks.now) c.args.slot) = omega (arith, c.count-number-end.ensures) in
    let p = err_from_is_err_and c.from_residual.result c.from_residual.ensures.1 in rw (p.1, p.2)
    (one_refused g.D.Disk.state c.args.disks.now c.loop-number.disks c.args.slot c.args.place c.args.index.now c.loop-number.index c.loop-number.number c.loop-number.at c.in_err-at.field-0.0
    c.loop-number.invariant within c.in_err-at.ensures.exact)

pub returns-in_err-at-clause-looks : goal.returns-in_err-at-clause-looks
returns-in_err-at-clause-looks g c =
    let p = err_from_is_err_and c.from_residual.result c.from_residual.ensures.1 in rw (p.1, p.2)
    (taken_looks g.D.Disk.state c.args.disks.now c.loop-number.disks c.take_record.new.disks c.args.slot c.args.place c.args.index.now c.loop-number.index c.loop-number.number c.loop-number.at
    (Err c.in_err-at.field-0.0) c.loop-number.invariant c.in_err-at.ensures.looks)

pub loop-number-preserved : goal.loop-number-preserved
loop-number-preserved g c =
    let within : c.loop-number.number < length (records_in (outline c.args.disks.now) c.args.slot) = omega (arith, c.count-number-end.ensures) in
    taken_more g.D.Disk.state c.args.disks.now c.loop-number.disks c.take_record.new.disks c.args.slot c.args.place c.args.index.now c.loop-number.index c.take_record.new.index c.loop-number.number
    c.loop-number.at c.in_ok-at.at c.loop-number.invariant within c.in_ok-at.ensures.looks c.in_ok-at.ensures.exact c.in_ok-at.ensures.behind c.in_ok-at.ensures.room c.in_ok-at.ensures.cuts c.in_ok-at.ensures.few
