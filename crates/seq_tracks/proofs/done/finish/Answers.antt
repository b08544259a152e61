use Rattle.std.proofs.Common.{◌≡◌, ℕ, ◌+◌, ◌-◌, ◌≤◌, ◌<◌, List, length, sym, ap, subst, arith}
use Rattle.std.specs.List.Sorted.{IsStrictlyIncreasing}
use Rattle.seq_tracks.specs.InOrder.{tracks_of}
use Rattle.seq_tracks.specs.Changed.{IsDoneUpTo}
use Rattle.seq_tracks.specs.ListLaws.{ascend_short}
use Rattle.seq_tracks.specs.OrderLaws.{few_done}
use Rattle.seq_tracks.proofs.SearchLemmas.{IsPlace, increasing}
use Rattle.seq_tracks.proofs.TrackLemmas.{done_next, done_in_place, released_behind}
use Rattle.seq_tracks.proofs.done.finish.Goals as goal

pub take_run-requires : goal.take_run-requires
take_run-requires c =
    let m = c.args.marks.now in
    let short : length c.args.done.now.items ≤ m.received - (m.complete + 1) = ascend_short (m.complete + 1) m.received c.args.done.now.items c.requires.order.done in
    omega arith

pub returns-then-seq-marks-clause-done : goal.returns-then-seq-marks-clause-done
returns-then-seq-marks-clause-done c =
    let made = c.take_run.ensures in
    done_next (tracks_of c.args.marks.now c.args.done.now.items) c.args.seq c.take_run.result c.take_run.new.done.items
    c.requires.order c.requires.released c.if-seq-marks.true made.from made.taken made.rest

pub place_of-place-requires : goal.place_of-place-requires
place_of-place-requires c =
    let m = c.args.marks.now in
    subst IsStrictlyIncreasing (sym c.deref.ensures.value) (increasing (m.complete + 1) m.received c.args.done.now.items c.requires.order.done)

pub insert_reserved-requires-clause-room : goal.insert_reserved-requires-clause-room
insert_reserved-requires-clause-room c =
    let t = tracks_of c.args.marks.now c.args.done.now.items in
    let few : length t.done < t.issued2 - t.complete = few_done t c.requires.order (released_behind t c.args.seq c.requires.released c.if-seq-marks.false) in
    omega (arith, c.requires.room)

pub insert_reserved-requires-clause-place : goal.insert_reserved-requires-clause-place
insert_reserved-requires-clause-place c =
    let same : length c.deref.result.now ≡ length c.args.done.now.items = ap length c.deref.ensures.value in
    omega (arith, c.place_of-place.ensures.within)

pub returns-clause-done : goal.returns-clause-done
returns-clause-done c =
    let t = tracks_of c.args.marks.now c.args.done.now.items in
    let place = c.place_of-place.result in
    let same = c.deref.ensures.value in
    let within : place ≤ length t.done = subst (λ (l : List ℕ). place ≤ length l) same c.place_of-place.ensures.within in
    let is_place : IsPlace t.done c.args.seq place =
    subst (λ (l : List ℕ). IsPlace l c.args.seq place) same (c.place_of-place.ensures.before, c.place_of-place.ensures.behind) in
    subst (IsDoneUpTo t t.received _ t.complete) (sym c.insert_reserved.ensures.inserted)
    (done_in_place t c.args.seq place c.requires.order c.requires.released c.if-seq-marks.false within is_place)
