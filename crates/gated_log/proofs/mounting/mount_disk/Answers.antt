use Rattle.std.proofs.Common.{◌∙◌, IsTrue, arith, ap, inr, subst, sym}
use Rattle.gated_log.specs.Records.{records}
use Rattle.gated_log.specs.PlainLog.{AtRest, IsTold, end_of}
use Rattle.gated_log.proofs.MountLemmas.{found_end, mount_bytes, mount_moments, mount_repaired, mounted}
use Rattle.gated_log.proofs.mounting.mount_disk.Goals as goal

pub returns-clause-log : goal.returns-clause-log
returns-clause-log g c = λ told.
    let told_then = subst IsTrue (sym c.sync.ensures.called.tells) told in
    let told_last = subst IsTrue (sym c.find.ensures.tells) told_then in
    let sized = g.met.D.Disk.sized c.sync.new.self told_then in
    subst (λ list. IsTold AtRest c.in_ok-found.found.spans.items c.in_ok-found.found.end (g.D.Disk.state c.close.new.disk).seen (g.D.Disk.state c.close.new.disk).may_leave list)
    (ap records (c.sync.ensures.writes_none.seen))
    (mounted c.in_ok-found.found.spans.items c.in_ok-found.found.end (g.D.Disk.state c.sync.new.self).seen (g.D.Disk.state c.find.new.disk).seen (g.D.Disk.state c.close.new.disk).seen
    (g.D.Disk.state c.close.new.disk).may_leave (c.in_ok-found.ensures.found told_then)
    (omega (arith, sized, c.in_ok-found.ensures.inside))
    (λ some. omega (arith, sized, c.in_ok-found.ensures.gate_there some))
    (c.in_ok-found.ensures.closed told_then)
    c.find.ensures.writes_none.seen
    (c.in_ok-close.ensures.closed told_last)
    (c.in_ok-close.ensures.durable told_last))

pub returns-in_err-close-clause-mounting : goal.returns-in_err-close-clause-mounting
returns-in_err-close-clause-mounting g c = record {
  tells = c.close.ensures.run.tells ∙ (c.find.ensures.tells ∙ c.sync.ensures.called.tells);
  arms = c.close.ensures.run.arms ∙ (c.find.ensures.arms ∙ c.sync.ensures.called.arms);
  later = omega (arith, c.sync.ensures.called.calls, c.find.ensures.later, c.close.ensures.run.later);
  bytes = λ told.
      let told_then = subst IsTrue (sym c.sync.ensures.called.tells) told in
      let told_last = subst IsTrue (sym c.find.ensures.tells) told_then in
      let sized = g.met.D.Disk.sized c.sync.new.self told_then in
      mount_bytes _ _ _ _ c.in_ok-found.found.spans.items c.in_ok-found.found.end c.sync.ensures.called.time c.sync.ensures.called.calls c.sync.ensures.writes_none
      (c.find.ensures.any_moment told_then) c.find.ensures.writes_none.seen (c.close.ensures.any_moment told_last) (c.in_ok-found.ensures.found told_then)
      (omega (arith, sized, c.in_ok-found.ensures.inside)) (λ some. omega (arith, sized, c.in_ok-found.ensures.gate_there some)) (c.in_ok-found.ensures.closed told_then)
      (c.close.ensures.torn told_last);
  moments = λ told.
      let told_then = subst IsTrue (sym c.sync.ensures.called.tells) told in
      let told_last = subst IsTrue (sym c.find.ensures.tells) told_then in
      let sized = g.met.D.Disk.sized c.sync.new.self told_then in
      mount_moments _ _ _ _ c.in_ok-found.found.spans.items c.in_ok-found.found.end c.sync.ensures.called.time c.sync.ensures.called.calls c.sync.ensures.writes_none
      (c.find.ensures.any_moment told_then) c.find.ensures.writes_none.seen (c.close.ensures.any_moment told_last) (c.in_ok-found.ensures.found told_then)
      (omega (arith, sized, c.in_ok-found.ensures.inside)) (λ some. omega (arith, sized, c.in_ok-found.ensures.gate_there some)) (c.in_ok-found.ensures.closed told_then)
      (λ image left. g.met.D.Disk.only_now _ image left);
  phases = λ told.
      let told_then = subst IsTrue (sym c.sync.ensures.called.tells) told in
      let told_last = subst IsTrue (sym c.find.ensures.tells) told_then in
      let sized = g.met.D.Disk.sized c.sync.new.self told_then in
      inr (mount_repaired _ _ _ _ c.in_ok-found.found.spans.items c.in_ok-found.found.end c.sync.ensures.called.time c.sync.ensures.called.calls c.sync.ensures.writes_none
      (c.find.ensures.any_moment told_then) c.find.ensures.writes_none.seen (c.close.ensures.any_moment told_last) (c.in_ok-found.ensures.found told_then)
      (omega (arith, sized, c.in_ok-found.ensures.inside)) (λ some. omega (arith, sized, c.in_ok-found.ensures.gate_there some)) (c.in_ok-found.ensures.closed told_then));
}

pub returns-clause-mounting : goal.returns-clause-mounting
returns-clause-mounting g c = record {
  tells = c.close.ensures.run.tells ∙ (c.find.ensures.tells ∙ c.sync.ensures.called.tells);
  arms = c.close.ensures.run.arms ∙ (c.find.ensures.arms ∙ c.sync.ensures.called.arms);
  later = omega (arith, c.sync.ensures.called.calls, c.find.ensures.later, c.close.ensures.run.later);
  bytes = λ told.
      let told_then = subst IsTrue (sym c.sync.ensures.called.tells) told in
      let told_last = subst IsTrue (sym c.find.ensures.tells) told_then in
      let sized = g.met.D.Disk.sized c.sync.new.self told_then in
      mount_bytes _ _ _ _ c.in_ok-found.found.spans.items c.in_ok-found.found.end c.sync.ensures.called.time c.sync.ensures.called.calls c.sync.ensures.writes_none
      (c.find.ensures.any_moment told_then) c.find.ensures.writes_none.seen (c.close.ensures.any_moment told_last) (c.in_ok-found.ensures.found told_then)
      (omega (arith, sized, c.in_ok-found.ensures.inside)) (λ some. omega (arith, sized, c.in_ok-found.ensures.gate_there some)) (c.in_ok-found.ensures.closed told_then)
      (c.close.ensures.torn told_last);
  moments = λ told.
      let told_then = subst IsTrue (sym c.sync.ensures.called.tells) told in
      let told_last = subst IsTrue (sym c.find.ensures.tells) told_then in
      let sized = g.met.D.Disk.sized c.sync.new.self told_then in
      mount_moments _ _ _ _ c.in_ok-found.found.spans.items c.in_ok-found.found.end c.sync.ensures.called.time c.sync.ensures.called.calls c.sync.ensures.writes_none
      (c.find.ensures.any_moment told_then) c.find.ensures.writes_none.seen (c.close.ensures.any_moment told_last) (c.in_ok-found.ensures.found told_then)
      (omega (arith, sized, c.in_ok-found.ensures.inside)) (λ some. omega (arith, sized, c.in_ok-found.ensures.gate_there some)) (c.in_ok-found.ensures.closed told_then)
      (λ image left. g.met.D.Disk.only_now _ image left);
  phases = λ told.
      let told_then = subst IsTrue (sym c.sync.ensures.called.tells) told in
      let told_last = subst IsTrue (sym c.find.ensures.tells) told_then in
      let sized = g.met.D.Disk.sized c.sync.new.self told_then in
      inr (mount_repaired _ _ _ _ c.in_ok-found.found.spans.items c.in_ok-found.found.end c.sync.ensures.called.time c.sync.ensures.called.calls c.sync.ensures.writes_none
      (c.find.ensures.any_moment told_then) c.find.ensures.writes_none.seen (c.close.ensures.any_moment told_last) (c.in_ok-found.ensures.found told_then)
      (omega (arith, sized, c.in_ok-found.ensures.inside)) (λ some. omega (arith, sized, c.in_ok-found.ensures.gate_there some)) (c.in_ok-found.ensures.closed told_then));
}

pub returns-clause-repaired : goal.returns-clause-repaired
returns-clause-repaired g c = λ told.
    let told_then = subst IsTrue (sym c.sync.ensures.called.tells) told in
    let told_last = subst IsTrue (sym c.find.ensures.tells) told_then in
    let sized = g.met.D.Disk.sized c.sync.new.self told_then in
    mount_repaired _ _ _ _ c.in_ok-found.found.spans.items c.in_ok-found.found.end c.sync.ensures.called.time c.sync.ensures.called.calls c.sync.ensures.writes_none
    (c.find.ensures.any_moment told_then) c.find.ensures.writes_none.seen (c.close.ensures.any_moment told_last) (c.in_ok-found.ensures.found told_then)
    (omega (arith, sized, c.in_ok-found.ensures.inside)) (λ some. omega (arith, sized, c.in_ok-found.ensures.gate_there some)) (c.in_ok-found.ensures.closed told_then)

pub returns-clause-end : goal.returns-clause-end
returns-clause-end g c = λ told.
    let told_then = subst IsTrue (sym c.sync.ensures.called.tells) told in
    let sized = g.met.D.Disk.sized c.sync.new.self told_then in
    found_end c.in_ok-found.found.spans.items c.in_ok-found.found.end (g.D.Disk.state c.sync.new.self).seen
    (c.in_ok-found.ensures.found told_then)
    (omega (arith, sized, c.in_ok-found.ensures.inside))
    (λ some. omega (arith, sized, c.in_ok-found.ensures.gate_there some))
    (c.in_ok-found.ensures.closed told_then)
    ∙ ap (λ bytes. end_of (records bytes)) (c.sync.ensures.writes_none.seen)
