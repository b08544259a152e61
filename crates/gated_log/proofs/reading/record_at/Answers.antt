use Rattle.std.proofs.Common.{arith, drop}
use Rattle.std.proofs.lemmas.List.{length-drop}
use Rattle.gated_log.proofs.ReadingLemmas.{at_place, header_says, too_short}
use Rattle.gated_log.proofs.reading.record_at.Goals as goal

pub returns-then-there-lt5-clause-record : goal.returns-then-there-lt5-clause-record
returns-then-there-lt5-clause-record g c = λ told.
    let seen = (g.D.Disk.state c.args.disk.now).seen in
    too_short (drop c.args.place seen)
    (omega (arith, length-drop c.args.place seen, g.met.D.Disk.sized c.args.disk.now told, c.size.ensures, c.if-there-lt5.true))

pub returns-clause-record : goal.returns-clause-record
returns-clause-record g c = λ told.
    let seen = (g.D.Disk.state c.args.disk.now).seen in
    at_place c.args.place seen c.length_of.result
    (header_says (drop c.args.place seen) c.read.new.into _ c.length_of.result
    (omega (arith, length-drop c.args.place seen, g.met.D.Disk.sized c.args.disk.now told, c.size.ensures))
    (omega (arith, c.if-there-lt5.false))
    (c.in_ok-read.ensures.bytes told)
    c.length_of.ensures.exact)
