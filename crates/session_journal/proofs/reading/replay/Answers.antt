use Rattle.std.proofs.Common.{◌<◌, length, arith}
use Rattle.pair_log.specs.PlainPair.{tail_of}
use Rattle.session_journal.proofs.ReadLemmas.{read_and}
use Rattle.session_journal.proofs.ReplayLemmas.{one_refused, replayed_more}
use Rattle.session_journal.proofs.reading.replay.Goals as goal

pub returns-in-Err-clause-exact : goal.returns-in-Err-clause-exact
returns-in-Err-clause-exact g c =
    let within : c.loop-number.number < length (tail_of c.args.pair.now.active.payloads) = omega (arith, c.count-number-end.ensures) in
    one_refused g.D.Disk.state c.args.pair.now c.loop-number.pair c.args.form.format c.args.form.shards c.args.place c.args.sessions.now c.loop-number.sessions
    c.loop-number.number c.loop-number.at c.in-Err.why c.loop-number.invariant within c.in-Err.ensures.exact

pub returns-in-Err-clause-reads : goal.returns-in-Err-clause-reads
returns-in-Err-clause-reads g c =
    read_and g.D.Disk.state c.args.pair.now c.loop-number.pair c.take_entry.new.pair c.loop-number.invariant.reads c.take_entry.ensures.reads

pub loop-number-preserved : goal.loop-number-preserved
loop-number-preserved g c =
    let within : c.loop-number.number < length (tail_of c.args.pair.now.active.payloads) = omega (arith, c.count-number-end.ensures) in
    replayed_more g.D.Disk.state c.args.pair.now c.loop-number.pair c.take_entry.new.pair c.args.form.format c.args.form.shards c.args.place c.args.sessions.now
    c.loop-number.sessions c.take_entry.new.sessions c.loop-number.number c.loop-number.at c.in-Ok.next c.loop-number.invariant within c.requires.place
    c.take_entry.ensures.reads c.in-Ok.ensures.cause c.in-Ok.ensures.exact c.in-Ok.ensures.next (c.in-Ok.ensures.spelled c.loop-number.invariant.spelled)
