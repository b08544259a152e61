use Rattle.std.proofs.Common.{◌+◌, ◌-◌, ◌++◌, sym, subst, arith}
use Rattle.session_model.specs.Acting.{numbers_from}
use Rattle.seq_tracks.specs.InOrder.{tracks_of}
use Rattle.seq_tracks.specs.Changed.{IsDoneUpTo}
use Rattle.seq_tracks.proofs.TrackLemmas.{received_all, received_some, room_for_run}
use Rattle.seq_tracks.proofs.done.pass_over.Goals as goal

pub returns-then-marks-clause-done : goal.returns-then-marks-clause-done
returns-then-marks-clause-done c received to =
    received_all (tracks_of c.args.marks.now c.args.done.now.items) received c.args.last c.requires.order c.if-marks.true c.requires.from to

pub push_run-requires-clause-room : goal.push_run-requires-clause-room
push_run-requires-clause-room c =
    let long = room_for_run (tracks_of c.args.marks.now c.args.done.now.items) c.args.last c.requires.order c.if-marks.false c.requires.from c.requires.issued in
    omega (arith, c.requires.room)

pub returns-clause-done : goal.returns-clause-done
returns-clause-done c received to =
    let t = tracks_of c.args.marks.now c.args.done.now.items in
    subst (IsDoneUpTo t received (t.done ++ numbers_from (t.received + 1) (c.args.last - t.received)) t.complete) (sym c.push_run.ensures.numbers)
    (received_some t received c.args.last c.requires.order c.if-marks.false c.requires.from to)
