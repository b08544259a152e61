use Rattle.std.proofs.Common.{◌≡◌, ◌<◌, ◌≤◌, ◌+◌, ◌-◌, IsTrue, All, length}
use Rattle.outside.specs.DiskModel.{LeavesOnly, WritesNone}
use Rattle.gated_log.specs.declared.span.Span.{Span}
use Rattle.gated_log.specs.Reading.{IsFound}
use Rattle.gated_log.proofs.reading.find.Given as goal

abbrev pub invariant-loop-spans : goal.invariant-loop-spans
invariant-loop-spans g l =
    let start = g.D.Disk.state l.fn.disk in
    let now = g.D.Disk.state l.disk in
    record {
      inside : l.end ≤ start.size;
      empty : length l.spans.items ≡ 0 → l.end ≡ 0;
      there : 0 < l.end → l.end < start.size;
      within : All (λ (span : Span). span.at + span.length ≤ l.end) l.spans.items;
      found : IsTrue start.tells → IsFound l.spans.items l.end start.seen;
      moments : IsTrue start.tells → LeavesOnly start now (λ image. image ≡ start.seen);
      quiet : WritesNone start now;
      tells : now.tells ≡ start.tells;
      arms : now.arms ≡ start.arms;
      calls : now.calls ≡ start.calls + length l.spans.items;
      faults : now.faults ≡ start.faults;
    }

abbrev pub decreases-loop-spans : goal.decreases-loop-spans
decreases-loop-spans g l = (g.D.Disk.state l.fn.disk).size - l.end
