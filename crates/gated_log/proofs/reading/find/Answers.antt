use Rattle.std.proofs.Common.{◌≡◌, ◌+◌, ◌≤◌, ◌<◌, ◌∙◌, IfSome, ◌∷◌, [], length, length-append, arith, All, IsTrue, ap, subst, sym}
use Rattle.outside.specs.DiskModel.{leaves_only_then}
use Rattle.gated_log.specs.declared.span.Span.{Span}
use Rattle.gated_log.specs.Reading.{IsFound, IsRecordAt}
use Rattle.gated_log.proofs.FindLemmas.{found_more, within_more}
use Rattle.gated_log.proofs.reading.find.Goals as goal

pub loop-spans-preserved : goal.loop-spans-preserved
loop-spans-preserved g c =
    let i = c.loop-spans.invariant in
    let start = g.D.Disk.state c.args.disk.now in
    let read = c.record_at.ensures in
    let count = c.in-Some.length in
    let end = c.loop-spans.end in
    let pushed = c.in_ok-push.ensures.items in
    let longer : length c.push.new.self.items ≡ length c.loop-spans.spans.items + 1 =
    ap length pushed ∙ length-append c.loop-spans.spans.items (record { at = end + 5; length = count } ∷ []) in
    let inside_then : end + (5 + count) < (g.D.Disk.state c.loop-spans.disk).size =
    subst (λ answer. IfSome answer (λ n. end + (5 + n) < (g.D.Disk.state c.loop-spans.disk).size)) c.in-Some.is c.in_ok-length.ensures.inside in
    let once : (g.D.Disk.state c.record_at.new.disk).calls ≡ (g.D.Disk.state c.loop-spans.disk).calls + 1 =
    subst (λ answer. IfSome answer (λ _. (g.D.Disk.state c.record_at.new.disk).calls ≡ (g.D.Disk.state c.loop-spans.disk).calls + 1)) c.in-Some.is c.in_ok-length.ensures.once in
    let fits : end + (5 + count) ≤ start.size = omega (arith, i.quiet.size, inside_then) in
    record {
      inside = fits;
      empty = λ none. absurd (omega (arith, none, longer));
      there = λ some. omega (arith, i.quiet.size, inside_then);
      within = subst (λ items. All (λ (span : Span). span.at + span.length ≤ end + (5 + count)) items) (sym pushed) (within_more c.loop-spans.spans.items end count i.within);
      found = λ told.
          let r : IsRecordAt end start.seen c.in_ok-length.field-0 =
          subst (λ bytes. IsRecordAt end bytes c.in_ok-length.field-0) i.quiet.seen (c.in_ok-length.ensures.record (subst IsTrue (sym i.tells) told)) in
          subst (λ items. IsFound items (end + (5 + count)) start.seen) (sym pushed)
          (found_more c.loop-spans.spans.items end count start.seen (i.found told)
          (subst (λ answer. IsRecordAt end start.seen answer) c.in-Some.is r)
          (omega (arith, fits, g.met.D.Disk.sized c.args.disk.now told)));
      moments = λ told.
          leaves_only_then _ _ _ _ (i.moments told) read.time
          (λ image left. c.requires.alone told image (i.quiet.images image (read.writes_none.images image left)));
      quiet = record {
        size = read.writes_none.size ∙ i.quiet.size;
        seen = read.writes_none.seen ∙ i.quiet.seen;
        images = λ image left. i.quiet.images image (read.writes_none.images image left);
      };
      tells = read.run.tells ∙ i.tells;
      arms = read.run.arms ∙ i.arms;
      calls = omega (arith, once, i.calls, longer);
      faults = c.in_ok-length.ensures.cause.kept ∙ i.faults;
    }
